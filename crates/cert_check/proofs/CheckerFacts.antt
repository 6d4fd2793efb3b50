-- A checker after one more line, and its verdict.
use Rattle.std.proofs.Common.{Vec, arith, ◌≡◌, ℕ, ◌+◌, ◌≤◌, Bool, true, false, IsTrue, ◌↔◌, List, ◌++◌, length, take, drop, sym, ap, subst, ◌∙◌, append_assoc, Result, Ok, Err, refl, Option, Some, None}
use Rattle.std.specs.Vec.{with_items}
use Rattle.std.proofs.lemmas.Bool.{both_ways}
use Rattle.std.proofs.lemmas.List.{with_items_is, length-set}
use Rattle.poet_io.specs.Texts.{Parses, IsRefusedLine, IsReading, HaveOneReading, newlines}
use Rattle.poet_io.specs.declared.text_refusal.TextRefusal.{TextRefusal}
use Rattle.poet_io.specs.declared.text_refusal.TextRefusal.TheVariants.{Line, Memory}
use Rattle.task_sheet.specs.SheetParts.{SheetParts}
use Rattle.task_sheet.specs.Sheets.{IsValidSheet}
use Rattle.policy.specs.PolicyMeaning.{PolicyMeaning}
use Rattle.preemption.specs.CutMeaning.{CutMeaning}
use Rattle.preemption.specs.CutLaws.{Serves}
use Rattle.abstract_rta.specs.Bounds.{PointsBound}
use Rattle.certificate.specs.declared.cert.Cert.{Cert}
use Rattle.certificate.specs.declared.step.LineStep.{LineStep}
use Rattle.certificate.specs.declared.step.LineStep.TheVariants as says
use Rattle.certificate.specs.Progress.{Progress}
use Rattle.certificate.specs.Machine.{StandsFor}
use Rattle.certificate.specs.Parsing.{cert_of_text}
use Rattle.certificate.specs.Text.{cert_format}
use Rattle.certificate.proofs.FeedFacts.{line_on}
use Rattle.conditions.specs.declared.failed.Failed.{Failed}
use Rattle.conditions.specs.Conditions.{failed_of}
use Rattle.conditions.specs.Meets.{FailedMeans}
use Rattle.cert_check.specs.declared.judged.Judged.{Judged}
use Rattle.cert_check.specs.CheckerParts.{CheckerParts}
use Rattle.cert_check.specs.JudgedLines.{unjudged, judge_line, note_bound}
use Rattle.meter.specs.Meters.{meter_at}
use Rattle.cert_check.specs.Standing.{IsReady, MadeWith, IsAt}
use Rattle.cert_check.specs.Verdicts.{judged_as, verdict_by, cert_verdict_of, IsVerdict, IsBoundedBy}
use Rattle.cert_check.proofs.Soundness.{read_holds}
use Rattle.cert_check.specs.declared.judging.Verdict.TheVariants.{Accepted, Text, Refused}
use Rattle.cert_check.proofs.StandingFacts.{Says, line_judged, says_text, says_refused, says_accepted}

note_length : (bounds : List ℕ) (s : LineStep) → length (note_bound bounds s) ≡ length bounds
note_length bounds says.More = refl
note_length bounds (says.Tasks n) = refl
note_length bounds (says.Entry i w r k) = length-set bounds i r
note_length bounds (says.Point a x terms) = refl
note_length bounds says.End = refl
note_length bounds says.Bad = refl

-- the bounds stand in the vector again
pub bounds_written : {Z : Type 0} (v : Vec ℕ Z) (before bounds : List ℕ) (s : LineStep) → before ≡ v.items → bounds ≡ note_bound before s
    → (with_items v bounds).items ≡ note_bound v.items s
bounds_written v before bounds s is noted =
    let now : bounds ≡ note_bound v.items s = noted ∙ ap (λ (w : List ℕ). note_bound w s) is in
    with_items_is v bounds (ap length now ∙ note_length v.items s ∙ sym v.ok.0) ∙ now

-- before the first line the meter stands at the first task
pub first_ready : (sheet : SheetParts) → IsValidSheet sheet → IsReady sheet (meter_at sheet 0 0 0) unjudged
first_ready sheet valid = record {
  sheet_is = refl;
  window_high = omega arith;
  bound_high = omega arith;
  seated = λ none. record { in_range = omega (arith, valid.some); task_is = refl; seat = refl };
}

-- what a checker was made with
abbrev pub made_of : {S : Type 0} → CheckerParts S → MadeWith S
made_of c = record { sheet = c.sheet; supply = c.supply; deadlines = c.deadlines }

-- with what it knows after one more line
abbrev pub with_line : {S : Type 0} → CheckerParts S → Progress → Judged → List ℕ → CheckerParts S
with_line c lines judged bounds = record { sheet = c.sheet; supply = c.supply; deadlines = c.deadlines; lines = lines; judged = judged; bounds = bounds }

pub line_at : {S : Type 0} (p : PolicyMeaning) (m : CutMeaning) (sbf : S → ℕ → ℕ) (c : CheckerParts S) (made : MadeWith S) (b t : List ℕ) (s : LineStep)
    (lines : Progress) (judged : Judged) (bounds : List ℕ) → IsAt p m sbf c made b → StandsFor lines (b ++ t) → newlines t ≤ 1 → Says s b t
    → judged ≡ judge_line p m (sbf c.supply) c.sheet c.deadlines c.judged s → bounds ≡ note_bound c.bounds s
    → IsAt p m sbf (with_line c lines judged bounds) made (b ++ t)
line_at p m sbf c made b t s lines judged bounds at stands few said judged_is bounds_are = record {
  sheet_is = at.sheet_is;
  supply_is = at.supply_is;
  deadlines_are = at.deadlines_are;
  fed = line_judged p m (sbf made.supply) made.sheet made.deadlines c.lines c.judged c.bounds b at.fed t s lines judged bounds stands few said
      (judged_is ∙ ap (λ v. judge_line p m (sbf v) c.sheet c.deadlines c.judged s) at.supply_is
      ∙ ap (λ (v : SheetParts). judge_line p m (sbf made.supply) v c.deadlines c.judged s) at.sheet_is
      ∙ ap (λ (v : Bool). judge_line p m (sbf made.supply) made.sheet v c.judged s) at.deadlines_are) bounds_are;
}

-- a piece and one more line of it
pub piece_on : (R : List ℕ → Type 0) (b bytes : List ℕ) (at n : ℕ) → R ((b ++ take at bytes) ++ take n (drop at bytes)) → R (b ++ take (at + n) bytes)
piece_on R b bytes at n h =
    subst R (append_assoc b (take at bytes) (take n (drop at bytes)) ∙ ap (λ (t : List ℕ). b ++ t) (sym (line_on bytes at n))) h

-- the verdict of what a checker knows
module _ {S : Type 0} (p : PolicyMeaning) (m : CutMeaning) (sbf : S → ℕ → ℕ) (c : CheckerParts S) (made : MadeWith S) (b : List ℕ) (at : IsAt p m sbf c made b)
    (one : HaveOneReading cert_format cert_of_text) (over : Bool) (is_over : IsTrue over ↔ ((cert : Cert) × Parses cert_format b cert)) where
  pub at_text : over ≡ false → (line : ℕ) → IsRefusedLine cert_format b line
      → Text line ≡ cert_verdict_of p m (sbf made.supply) made.sheet made.deadlines b
  at_text ended line refused =
      says_text p m (sbf made.supply) made.sheet made.deadlines c.lines c.judged c.bounds b at.fed one line refused
      (λ cert parses. both_ways over ended (is_over.1 (cert, parses)))

  pub at_refused : over ≡ true → (failed : Failed) → c.judged.failed ≡ Some failed
      → Refused failed ≡ cert_verdict_of p m (sbf made.supply) made.sheet made.deadlines b
  at_refused ended failed e =
      let found = is_over.0 ended in
      says_refused p m (sbf made.supply) made.sheet made.deadlines c.lines c.judged c.bounds b at.fed one found.0 found.1 failed e

  pub at_accepted : over ≡ true → c.judged.failed ≡ None → Accepted c.bounds ≡ cert_verdict_of p m (sbf made.supply) made.sheet made.deadlines b
  at_accepted ended e =
      let found = is_over.0 ended in
      says_accepted p m (sbf made.supply) made.sheet made.deadlines c.lines c.judged c.bounds b at.fed one found.0 found.1 e

module _ (p : PolicyMeaning) (m : CutMeaning) (sbf : ℕ → ℕ) (sheet : SheetParts) (deadlines : Bool) (one : HaveOneReading cert_format cert_of_text) where
  judged_means : (bytes : List ℕ) (c : Cert) → Parses cert_format bytes c → (failed : Option Failed) → failed_of p m sbf sheet deadlines c ≡ failed
      → IsVerdict p m sbf sheet deadlines bytes (judged_as c failed)
  judged_means bytes c parses None none = record { cert = c; parses = parses; meets = none; bounds_are = refl }
  judged_means bytes c parses (Some failed) fails = record { cert = c; parses = parses; fails = fails }

  read_means : (bytes : List ℕ) (r : Result Cert TextRefusal) → IsReading cert_format bytes r
      → IsVerdict p m sbf sheet deadlines bytes (verdict_by (failed_of p m sbf sheet deadlines) r)
  read_means bytes (Ok c) parses = judged_means bytes c parses (failed_of p m sbf sheet deadlines c) refl
  read_means bytes (Err (Line line)) refused = refused
  read_means bytes (Err Memory) h = absurd h

  pub verdict_means : (bytes : List ℕ) → IsVerdict p m sbf sheet deadlines bytes (cert_verdict_of p m sbf sheet deadlines bytes)
  unfolding cert_verdict_of
  verdict_means bytes = read_means bytes (cert_of_text bytes) (one.exists bytes)

  pub verdict_bounds : PointsBound p m sbf → FailedMeans p m sbf → IsValidSheet sheet → Serves m sheet → (bytes : List ℕ)
      → IsBoundedBy p m sbf sheet deadlines (cert_verdict_of p m sbf sheet deadlines bytes)
  unfolding cert_verdict_of
  verdict_bounds law means valid served bytes = read_holds p m sbf law means sheet valid served deadlines bytes (cert_of_text bytes) (one.exists bytes)
