use Rattle.std.proofs.Common.{◌≡◌, ℕ, ◌<◌, ◌≤◌, false, None, [], length, All, sym, ap, subst, arith, Result, Ok, Err}
use Rattle.std.specs.Prelude.{IfOk, IfErr}
use Rattle.std.proofs.lemmas.List.Elements.{All-nil, All-from_recursion, All-get_or, All-from_get_or}
use Rattle.lists.specs.Limits.{greatest_number}
use Rattle.task_sheet.specs.SheetParts.{SheetParts}
use Rattle.policy.specs.PolicyMeaning.{PolicyMeaning}
use Rattle.preemption.specs.CutMeaning.{CutMeaning}
use Rattle.certificate.specs.declared.cert.Version.{Version}
use Rattle.certificate.specs.declared.cert.Version.TheVariants.{One}
use Rattle.certificate.specs.declared.cert.Entry.{Entry}
use Rattle.certificate.specs.declared.cert.Cert.{Cert}
use Rattle.certificate.specs.Text.{IsPoint, IsTerms, IsEntry, HasTermsOf, IsWithinGrammar}
use Rattle.conditions.specs.Conditions.{no_entry, entry_at, failed_of}
use Rattle.conditions.proofs.MeetFacts.{cert_means, cert_none}
use Rattle.solver.specs.Laws.{Laws}
use Rattle.solver.specs.declared.analysis.AnalyseRefusal.{AnalyseRefusal}
use Rattle.solver.specs.declared.analysis.AnalyseRefusal.TheVariants.{NoBound, Points, Memory}
use Rattle.solver.specs.declared.analysis.Part.TheVariants.{Window, Bound}
use Rattle.solver.specs.Best.{IsBest, IsEntryUpTo, IsUpTo, HavePoints, NoneSmaller, NoneMeets, NoneWhereNoBound, HasCause, HasNoWindow, HasLateBound}
use Rattle.solver.specs.Outcome.{IsBestAnswer}
use Rattle.solver.proofs.Chain.{entry_meets}
use Rattle.solver.proofs.Listed.{points_one}
use Rattle.solver.proofs.Least.{window_least, bound_least, below_each, each_within}
use Rattle.solver.proofs.Listing.{points_some, each_weaker}
use Rattle.solver.proofs.Found.{answer_found}
use Rattle.solver.proofs.Single.{answers_same}

module _ (p : PolicyMeaning) (m : CutMeaning) (sbf : ℕ → ℕ) (sheet : SheetParts) (horizon : ℕ) where
  pub best_meets : (cert : Cert) → IsBest p m sbf sheet horizon cert → failed_of p m sbf sheet false cert ≡ None
  best_meets cert best =
      cert_none p m sbf sheet false cert
      (record {
        count = best.count;
        tasks = λ i l. let own =
            best.best i (omega (arith, best.count)) in entry_meets p m sbf sheet i (entry_at cert i) own.best;
      })

  has_points : (cert : Cert) (i : ℕ) → i < length cert.entries → HavePoints cert → 1 ≤ length (entry_at cert i).points
  has_points cert i l have = All-get_or (λ e. 1 ≤ length e.points) cert.entries i no_entry l have

  entry_up_to_of : (cert : Cert) (i : ℕ) → i < length cert.entries → IsUpTo horizon cert → IsEntryUpTo horizon (entry_at cert i)
  entry_up_to_of cert i l up_to = All-get_or (IsEntryUpTo horizon) cert.entries i no_entry l up_to

  pub none_smaller : Laws p m sbf sheet → (cert : Cert) → IsBest p m sbf sheet horizon cert → NoneSmaller p m sbf sheet cert
  none_smaller laws cert best other have none i l =
      let meets = cert_means p m sbf sheet false other none in
      let own = best.best i (omega (arith, best.count)) in
      let task = meets.tasks i l in
      let some : 1 ≤ length (entry_at other i).points = has_points other i (omega (arith, meets.count)) have in (
        window_least p m sbf sheet laws i l (entry_at cert i) (entry_at other i) false own.best task,
        bound_least p m sbf sheet laws i l (entry_at cert i) (entry_at other i) false own.best some task,
      )

  no_window_none : (i : ℕ) → HasNoWindow p m sbf sheet horizon i → NoneMeets p m sbf sheet horizon Window
  no_window_none i has other have up_to none =
      let meets = cert_means p m sbf sheet false other none in
      has.none (entry_at other i).window (entry_up_to_of other i (omega (arith, meets.count, has.before.1.task)) up_to).window
      (meets.tasks i has.before.1.task).window

  late_none : Laws p m sbf sheet → (i : ℕ) → HasLateBound p m sbf sheet horizon i → NoneMeets p m sbf sheet horizon Bound
  late_none laws i has other have up_to none =
      let meets = cert_means p m sbf sheet false other none in
      let l : i < length other.entries = omega (arith, meets.count, has.before.task) in
      let least = bound_least p m sbf sheet laws i has.before.task has.entry (entry_at other i) false has.best
      (has_points other i l have) (meets.tasks i has.before.task) in
      omega (arith, least, has.late, (entry_up_to_of other i l up_to).bound)

  pub none_where : Laws p m sbf sheet → (r : AnalyseRefusal) → HasCause p m sbf sheet horizon r → NoneWhereNoBound p m sbf sheet horizon r
  none_where laws (NoBound i Window) h = no_window_none i h
  none_where laws (NoBound i Bound) h = late_none laws i h
  none_where laws (Points i) h = tt
  none_where laws Memory h = tt

  -- the best certificate and each refusal with its cause are the function's answer
  pub best_answer : Laws p m sbf sheet → (r : Result Cert AnalyseRefusal) → IfOk r (IsBest p m sbf sheet horizon) →
      IfErr r (HasCause p m sbf sheet horizon) → IsBestAnswer p m sbf sheet horizon r
  best_answer laws (Ok cert) best cause = answers_same p m sbf sheet horizon _ (Ok cert) (answer_found p m sbf sheet laws horizon) best
  best_answer laws (Err (NoBound i part)) best cause = answers_same p m sbf sheet horizon _ (Err (NoBound i part))
      (answer_found p m sbf sheet laws horizon) cause
  best_answer laws (Err (Points i)) best cause = answers_same p m sbf sheet horizon _ (Err (Points i)) (answer_found p m sbf sheet laws horizon) cause
  best_answer laws (Err Memory) best cause = tt

  module _ (laws : Laws p m sbf sheet) (cert : Cert) (best : IsBest p m sbf sheet horizon cert) where
    entry_up_to : (i : ℕ) → i < length cert.entries → IsEntryUpTo horizon (entry_at cert i)
    entry_up_to i l =
        let own = best.best i l in
        let e = entry_at cert i in
        let task : i < length sheet.tasks = omega (arith, best.count) in
        let meets = entry_meets p m sbf sheet i e own.best in
        let below = below_each p m sbf sheet laws i task e.window e.bound None e.points meets.points in
        record {
          window = own.window;
          bound = own.bound;
          points = All-from_recursion _ e.points
              (each_within p m sbf sheet laws i task e.window horizon e.points own.window own.best.window.holds own.best.ends below);
        }

    pub best_up_to : IsUpTo horizon cert
    best_up_to = All-from_get_or (IsEntryUpTo horizon) cert.entries no_entry entry_up_to

    entry_fits : horizon ≤ greatest_number → (i : ℕ) → i < length cert.entries → IsEntry (entry_at cert i)
    entry_fits top i l =
        let own = best.best i l in
        let e = entry_at cert i in
        let task : i < length sheet.tasks = omega (arith, best.count) in
        let small = entry_up_to i l in
        let meets = entry_meets p m sbf sheet i e own.best in
        let below = below_each p m sbf sheet laws i task e.window e.bound None e.points meets.points in
        let each = each_within p m sbf sheet laws i task e.window greatest_number e.points
        (omega (arith, own.window)) own.best.window.holds own.best.ends below in
        record {
          window = omega (arith, small.window);
          bound = omega (arith, small.bound);
          some = points_some p sheet i e.window e.points own.best.window.holds.positive own.best.offsets;
          few = omega (arith, points_one cert.entries (length sheet.tasks) i task, best.few);
          points = All-from_recursion IsPoint e.points (each_weaker _ IsPoint e.points (λ q h. record { offset = h.0; end = h.1 }) each);
        }

    no_terms : (e : Entry) → e.terms ≡ [] → HasTermsOf One e
    no_terms e plain = record { count = ap length plain; each = rw plain (All-nil IsTerms) }

    entry_plain : (i : ℕ) → i < length cert.entries → HasTermsOf One (entry_at cert i)
    entry_plain i l = no_terms (entry_at cert i) (best.best i l).best.plain

    pub best_within : horizon ≤ greatest_number → IsWithinGrammar cert
    best_within top = record {
      some = omega (arith, best.count, laws.valid.some);
      few = omega (arith, best.count, laws.valid.few);
      entries = All-from_get_or IsEntry cert.entries no_entry (entry_fits top);
      terms = subst (λ (v : Version). All (HasTermsOf v) cert.entries) (sym best.version) (All-from_get_or (HasTermsOf One) cert.entries no_entry entry_plain);
    }
