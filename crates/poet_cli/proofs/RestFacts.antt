-- What the judgement of a certificate says, from how it ended and how that was told.
use Rattle.std.proofs.Common.{◌≡◌, ◌≢◌, ◌≤◌, inl, inr, ℕ, Bool, List, [], ◌∷◌, Ok, Err, IfOk, IfErr, refl, sym, ap, subst, arith}
use Rattle.task_sheet.specs.SheetParts.{SheetParts}
use Rattle.policy.specs.PolicyMeaning.{PolicyMeaning}
use Rattle.preemption.specs.CutMeaning.{CutMeaning}
use Rattle.supply.specs.Promises.{sbf_of}
use Rattle.cert_check.specs.declared.judging.Verdict.{Verdict}
use Rattle.cert_check.specs.declared.judging.Verdict.TheVariants as verdict
use Rattle.cert_check.specs.Verdicts.{cert_verdict_of}
use Rattle.poet_text.specs.declared.printed.Printed.TheVariants.{Done, JudgedNo}
use Rattle.poet_text.specs.declared.refusal.Source.TheVariants as source
use Rattle.poet_text.specs.declared.refusal.Refusal.{Refusal}
use Rattle.poet_text.specs.declared.refusal.Refusal.TheVariants.{Usage, Read, Sheet, Text, Limit, Points, Jobs, Segments, LongUpgrade, Memory}
use Rattle.poet_text.specs.Endings.{Ending, IsSound}
use Rattle.poet_text.specs.Tellings.{Outlets, Told}
use Rattle.poet_cli.specs.Readings.{ShelfAt}
use Rattle.poet_cli.specs.Steps.{Reads}
use Rattle.poet_cli.specs.Openings.{OpensFront}
use Rattle.poet_cli.specs.Origins.{WasPrinted}
use Rattle.poet_cli.specs.Refusing.{IsNoRefusal, MayRefuse, IsThis}
use Rattle.poet_cli.specs.Clauses.{Outside, Answers, LeavesShelf}
use Rattle.poet_cli.specs.CertVerdicts.{verdict_ending, rest_by, rest_of, AcceptedHolds, RefusedHolds, RestDoes, Judged, MayRest, RestHeadline, RestObjection}
use Rattle.poet_cli.proofs.FoundFacts.{Found, reads_found}
use Rattle.poet_cli.proofs.MayFacts.{may_reads}
use Rattle.poet_cli.proofs.OpeningFacts.{file_opens}
use Rattle.poet_cli.proofs.DoesFacts.{file_of, reads_leave, leaves_told}
use Rattle.poet_cli.proofs.EndingFacts.{printed_few, answers_from, holds_told, fails_told, read_told}
use Rattle.poet_cli.proofs.VerdictFacts.{rest_gives}

-- a verdict is refused only as a text
verdict_refusal : (sheet : SheetParts) (v : Verdict) (refusal : Refusal) → verdict_ending sheet v ≡ Err refusal →
    MayRefuse (IsThis source.Certificate) IsNoRefusal refusal
verdict_refusal sheet (verdict.Accepted bounds) refusal e = absurd (cc)
verdict_refusal sheet (verdict.Text line) refusal e =
    let same : Text source.Certificate line ≡ refusal = cc in
    subst (MayRefuse (IsThis source.Certificate) IsNoRefusal) same (refl, λ h. absurd (cc))
verdict_refusal sheet (verdict.Refused failed) refusal e = absurd (cc)

-- a refusal of the certificate's file that is no want of memory
may_rest : (refusal : Refusal) → MayRefuse (IsThis source.Certificate) IsNoRefusal refusal → refusal ≢ Memory → MayRest refusal
may_rest Usage may never = may
may_rest (Read which) may never = may
may_rest (Sheet refusal) may never = may
may_rest (Text which line) may never = may
may_rest (Limit which) may never = may
may_rest (Points name) may never = may
may_rest Jobs may never = may
may_rest Segments may never = may
may_rest LongUpgrade may never = may
may_rest Memory may never = absurd (never refl)

-- no status of words, of a sheet, or of memory
pub record NoOtherStatus (status : ℕ) : Type 0 where
  pub usage : status ≢ 2
  pub sheet : status ≢ 5
  pub memory : status ≢ 8

is_other : (here status : ℕ) → status ≡ here → here ≢ 2 → here ≢ 5 → here ≢ 8 → NoOtherStatus status
is_other here status is usage sheet memory = record {
  usage = subst (λ (n : ℕ). n ≢ 2) (sym is) usage;
  sheet = subst (λ (n : ℕ). n ≢ 5) (sym is) sheet;
  memory = subst (λ (n : ℕ). n ≢ 8) (sym is) memory;
}

few_other : (status : ℕ) → status ≤ 1 → NoOtherStatus status
few_other status few = record {
  usage = λ e. absurd (omega (arith, few, e));
  sheet = λ e. absurd (omega (arith, few, e));
  memory = λ e. absurd (omega (arith, few, e));
}

never_told : (ending : Ending) (s t : Outlets) (status : ℕ) → Told ending s t status → IfErr ending MayRest → NoOtherStatus status
never_told (Ok p) s t status (inl wrote) may = few_other status (omega (arith, printed_few p, wrote.status_is))
never_told (Ok p) s t status (inr wrote) may =
    is_other 4 status wrote.status_is (λ e. absurd (omega (arith, e))) (λ e. absurd (omega (arith, e))) (λ e. absurd (omega (arith, e)))
never_told (Err (Read which)) s t status wrote may =
    is_other 3 status wrote.status_is (λ e. absurd (omega (arith, e))) (λ e. absurd (omega (arith, e))) (λ e. absurd (omega (arith, e)))
never_told (Err (Text which line)) s t status wrote may =
    is_other 6 status wrote.status_is (λ e. absurd (omega (arith, e))) (λ e. absurd (omega (arith, e))) (λ e. absurd (omega (arith, e)))
never_told (Err (Limit which)) s t status wrote may =
    is_other 7 status wrote.status_is (λ e. absurd (omega (arith, e))) (λ e. absurd (omega (arith, e))) (λ e. absurd (omega (arith, e)))
never_told (Err (Sheet refusal)) s t status wrote may =
    let other : source.Sheet ≡ source.Certificate = may.0 in
    absurd (cc)
never_told (Err Usage) s t status wrote may = absurd may
never_told (Err (Points name)) s t status wrote may = absurd may
never_told (Err Jobs) s t status wrote may = absurd may
never_told (Err Segments) s t status wrote may = absurd may
never_told (Err LongUpgrade) s t status wrote may = absurd may
never_told (Err Memory) s t status wrote may = absurd may

module _ (p : PolicyMeaning) (m : CutMeaning) (sheet : SheetParts) (deadlines : Bool) (name : List ℕ) where
  abbrev Does : List ℕ → Ending → Type 0
  Does bytes ending = RestDoes p m sheet deadlines bytes ending

  module _ (before now : ShelfAt) where
    found : (ending : Ending) → Reads source.Certificate name Does before now ending →
        Found (rest_of p m sheet deadlines name) before.files before.faults now.faults ending
    found ending reads =
        reads_found source.Certificate name Does (rest_by p m sheet deadlines) before now ending
        (λ bytes does. rest_gives p m sheet deadlines bytes ending does) reads

    may_be : (ending : Ending) → Reads source.Certificate name Does before now ending → ending ≢ Err Memory → IfErr ending MayRest
    may_be (Ok print) reads never = tt
    may_be (Err refusal) reads never =
        may_rest refusal
        (may_reads (IsThis source.Certificate) IsNoRefusal source.Certificate name Does before now refusal refl
        (λ bytes does. verdict_refusal sheet (cert_verdict_of p m (sbf_of sheet.supply) sheet deadlines bytes) refusal does.is) reads)
        (λ e. never (ap (λ (r : Refusal). Err r) e))

    is_sound : (ending : Ending) → Reads source.Certificate name Does before now ending →
        IfOk ending (IsSound (RestHeadline p m sheet deadlines name before.files before.log now.log)
        (RestObjection p m sheet deadlines name before.files before.log now.log))
    is_sound (Ok (Done text)) reads =
        file_of source.Certificate name Does before now (Done text) (λ bytes. AcceptedHolds p m sheet deadlines bytes text) (λ bytes does. does.sound) reads
    is_sound (Ok (JudgedNo text)) reads =
        file_of source.Certificate name Does before now (JudgedNo text) (λ bytes. RefusedHolds p m sheet deadlines bytes text) (λ bytes does. does.sound) reads
    is_sound (Err refusal) reads = tt

  module _ (before after : Outside) (status : ℕ) (judged : Judged p m sheet deadlines name before after status) where
    may : IfErr judged.ending MayRest
    may = may_be before.shelf after.shelf judged.ending judged.reads judged.no_memory

    pub rest_answers : Answers (rest_of p m sheet deadlines name) MayRest before after status
    rest_answers =
        answers_from (rest_of p m sheet deadlines name) MayRest before.shelf after.shelf before.sinks after.sinks status judged.ending
        (found before.shelf after.shelf judged.ending judged.reads) may judged.told

    pub rest_opens : OpensFront (name ∷ []) before.shelf.log after.shelf.log
    rest_opens = file_opens source.Certificate name Does before.shelf after.shelf judged.ending judged.reads

    pub rest_never : NoOtherStatus status
    rest_never = never_told judged.ending before.sinks after.sinks status judged.told may

    pub rest_headline : status ≡ 0 → WasPrinted before.sinks.out after.sinks.out
        (RestHeadline p m sheet deadlines name before.shelf.files before.shelf.log after.shelf.log)
    rest_headline = holds_told _ _ judged.ending before.sinks after.sinks status judged.told
        (is_sound before.shelf after.shelf judged.ending judged.reads)

    pub rest_objection : status ≡ 1 → WasPrinted before.sinks.out after.sinks.out
        (RestObjection p m sheet deadlines name before.shelf.files before.shelf.log after.shelf.log)
    rest_objection = fails_told _ _ judged.ending before.sinks after.sinks status judged.told
        (is_sound before.shelf after.shelf judged.ending judged.reads)

    pub rest_leaves : LeavesShelf before.shelf after.shelf status
    rest_leaves =
        leaves_told before.shelf after.shelf judged.ending status
        (reads_leave source.Certificate name Does before.shelf after.shelf judged.ending (rest_by p m sheet deadlines)
        (λ bytes does. rest_gives p m sheet deadlines bytes judged.ending does) judged.reads)
        (read_told judged.ending before.sinks after.sinks status judged.told)
