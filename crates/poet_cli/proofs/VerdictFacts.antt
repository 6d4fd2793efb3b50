-- A certificate that is judged as it is read.
use Rattle.std.proofs.Common.{◌≡◌, ◌≢◌, inl, inr, ℕ, Bool, List, [], length, Option, Some, None, Result, Ok, Err, refl, sym, ap, subst, ◌∙◌}
use Rattle.task_sheet.specs.SheetParts.{SheetParts}
use Rattle.policy.specs.PolicyMeaning.{PolicyMeaning}
use Rattle.preemption.specs.CutMeaning.{CutMeaning}
use Rattle.supply.specs.Promises.{sbf_of}
use Rattle.conditions.specs.declared.failed.Failed.{Failed}
use Rattle.cert_check.specs.declared.judging.Verdict.{Verdict}
use Rattle.cert_check.specs.declared.judging.Verdict.TheVariants as verdict
use Rattle.cert_check.specs.Verdicts.{cert_verdict_of, IsVerdict, IsBoundedBy}
use Rattle.poet_text.specs.declared.printed.Printed.TheVariants as printed
use Rattle.poet_text.specs.declared.refusal.Source.TheVariants as source
use Rattle.poet_text.specs.declared.refusal.Refusal.{Refusal}
use Rattle.poet_text.specs.declared.refusal.Refusal.TheVariants.{Text, Memory}
use Rattle.poet_text.specs.Endings.{Ending}
use Rattle.poet_text.specs.Words.{CheckOf}
use Rattle.poet_text.specs.Endings.{next}
use Rattle.poet_text.specs.Printing.{accepted_text}
use Rattle.poet_text.specs.Tellings.{Outlets, Told}
use Rattle.poet_cli.specs.Readings.{ShelfAt, IsFileReading}
use Rattle.poet_cli.specs.Steps.{Gives}
use Rattle.std.proofs.lemmas.List.{length-map}
use Rattle.poet_io.specs.declared.text_refusal.TextRefusal.{TextRefusal}
use Rattle.poet_io.specs.declared.text_refusal.TextRefusal.TheVariants as texts
use Rattle.poet_io.specs.Texts.{IsReading, HaveOneReading}
use Rattle.policy_more.specs.Meanings.{meaning_of}
use Rattle.preemption.specs.Kinds.{per_task_meaning}
use Rattle.certificate.specs.declared.cert.Cert.{Cert}
use Rattle.certificate.specs.declared.cert.Entry.{Entry}
use Rattle.certificate.specs.Text.{cert_format}
use Rattle.certificate.specs.Parsing.{cert_of_text}
use Rattle.schedule_laws.specs.Bounded.{AreBounded}
use Rattle.cert_check.specs.Verdicts.{bounds_of, judged_as, verdict_by}
use Rattle.poet_cli.specs.Answers.{text_read, sheet_by, failed_for, judged_by, judge_by}
use Rattle.poet_cli.specs.Refusing.{IsOf, IsTextOf, IsNoRefusal}
use Rattle.poet_cli.specs.Headline.{accepted_for, BoundsHold}
use Rattle.poet_cli.specs.Objections.{CertificateFails}
use Rattle.poet_cli.specs.Works.{JudgeDoes}
use Rattle.poet_cli.specs.Steps.{After, ReadsSheet}
use Rattle.poet_cli.specs.Clauses.{Outside, Did}
use Rattle.poet_io.specs.Eaters.{Ate}
use Rattle.cert_check.specs.CheckerParts.{CheckerParts}
use Rattle.cert_check.specs.Standing.{MadeWith, IsAt}
use Rattle.poet_cli.specs.CertVerdicts.{HasCount, verdict_ending, rest_by, AcceptedHolds, RefusedHolds, RestDoes, Judged, HadNoMemory, JudgedUnless}

module _ (p : PolicyMeaning) (m : CutMeaning) (sheet : SheetParts) (deadlines : Bool) where
  -- a verdict that is the defined one ends as it must
  pub rest_does : (bytes : List ℕ) (v : Verdict) → v ≡ cert_verdict_of p m (sbf_of sheet.supply) sheet deadlines bytes →
      IsVerdict p m (sbf_of sheet.supply) sheet deadlines bytes v → IsBoundedBy p m (sbf_of sheet.supply) sheet deadlines v →
      RestDoes p m sheet deadlines bytes (verdict_ending sheet v)
  rest_does bytes (verdict.Accepted bounds) e is sound = record {
    is = ap (verdict_ending sheet) (sym e);
    sound = record { bounds = bounds; accepted = is; sound = sound; printed = refl };
  }
  rest_does bytes (verdict.Text line) e is sound = record { is = ap (verdict_ending sheet) (sym e); sound = tt }
  rest_does bytes (verdict.Refused failed) e is sound = record {
    is = ap (verdict_ending sheet) (sym e);
    sound = record { failed = failed; refused = is; printed = refl };
  }

-- a verdict is no want of memory
pub verdict_never : (sheet : SheetParts) (v : Verdict) → verdict_ending sheet v ≡ Err Memory → ⊥
verdict_never sheet (verdict.Accepted bounds) e = absurd (cc)
verdict_never sheet (verdict.Text line) e = absurd (cc)
verdict_never sheet (verdict.Refused failed) e = absurd (cc)

verdict_gives : (sheet : SheetParts) (v : Verdict) → Gives (verdict_ending sheet v) (verdict_ending sheet v)
verdict_gives sheet (verdict.Accepted bounds) = refl
verdict_gives sheet (verdict.Text line) = refl
verdict_gives sheet (verdict.Refused failed) = refl

pub rest_gives : (p : PolicyMeaning) (m : CutMeaning) (sheet : SheetParts) (deadlines : Bool) (bytes : List ℕ) (ending : Ending) →
    RestDoes p m sheet deadlines bytes ending → Gives (rest_by p m sheet deadlines bytes) ending
rest_gives p m sheet deadlines bytes ending does =
    let v = cert_verdict_of p m (sbf_of sheet.supply) sheet deadlines bytes in
    subst (λ (e : Ending). Gives (rest_by p m sheet deadlines bytes) e) does.is (verdict_gives sheet v)

module _ (sheet : SheetParts) (deadlines : Bool) where
  judged_same : (cert : Cert) (failed : Option Failed) →
      verdict_ending sheet (judged_as cert failed) ≡ Ok (judged_by accepted_for sheet cert failed)
  judged_same cert None = refl
  judged_same cert (Some failed) = refl

  read_same : (bytes : List ℕ) (failed : Cert → Option Failed) (read : Result Cert TextRefusal) → IsReading cert_format bytes read →
      verdict_ending sheet (verdict_by failed read) ≡
      next (text_read source.Certificate read) (λ cert. Ok (judged_by accepted_for sheet cert (failed cert)))
  read_same bytes failed (Ok cert) is = judged_same cert (failed cert)
  read_same bytes failed (Err (texts.Line line)) is = refl
  read_same bytes failed (Err texts.Memory) is = absurd is

  -- the answer of `check` over the bytes of a certificate
  answer_same : HaveOneReading cert_format cert_of_text → (bytes : List ℕ) →
      rest_by (meaning_of sheet.policy) per_task_meaning sheet deadlines bytes ≡ judge_by accepted_for deadlines sheet bytes
  unfolding cert_verdict_of
  answer_same one bytes = read_same bytes (failed_for sheet deadlines) (cert_of_text bytes) (one.exists bytes)

  accepted_bounds : (bytes text : List ℕ) → AcceptedHolds (meaning_of sheet.policy) per_task_meaning sheet deadlines bytes text →
      BoundsHold sheet deadlines accepted_for bytes text
  accepted_bounds bytes text holds =
      let same : holds.bounds ≡ bounds_of holds.accepted.cert = holds.accepted.bounds_are in
      record {
        cert = holds.accepted.cert;
        reads = holds.accepted.parses;
        count = sym (length-map holds.accepted.cert.entries (λ (e : Entry). e.bound)) ∙ ap length (sym same) ∙ holds.sound.count;
        bounded = subst (AreBounded (meaning_of sheet.policy) per_task_meaning (sbf_of sheet.supply) sheet) same holds.sound.bounded;
        in_time = holds.sound.in_time;
        printed = holds.printed ∙ ap (accepted_text sheet) same;
      }

  refused_fails : (bytes text : List ℕ) → RefusedHolds (meaning_of sheet.policy) per_task_meaning sheet deadlines bytes text →
      CertificateFails sheet deadlines bytes text
  refused_fails bytes text holds = record {
    cert = holds.refused.cert;
    reads = holds.refused.parses;
    failing = record { first = holds.failed; fails = holds.refused.fails; printed = holds.printed };
  }

  refusal_is : (v : Verdict) (refusal : Refusal) → verdict_ending sheet v ≡ Err refusal → IsOf (IsTextOf source.Certificate) IsNoRefusal refusal
  refusal_is (verdict.Accepted bounds) refusal e = absurd (cc)
  refusal_is (verdict.Text line) refusal e =
      let same : Text source.Certificate line ≡ refusal = cc in
      subst (IsOf (IsTextOf source.Certificate) IsNoRefusal) same (refl, λ h. absurd (cc))
  refusal_is (verdict.Refused failed) refusal e = absurd (cc)

  -- what `check` does with the bytes of a certificate
  pub judge_does : HaveOneReading cert_format cert_of_text → (bytes : List ℕ) (ending : Ending) →
      RestDoes (meaning_of sheet.policy) per_task_meaning sheet deadlines bytes ending → JudgeDoes accepted_for deadlines sheet bytes ending
  judge_does one bytes (Ok (printed.Done text)) does = record {
    gives = sym (answer_same one bytes) ∙ does.is;
    sound = accepted_bounds bytes text does.sound;
    refused = tt;
  }
  judge_does one bytes (Ok (printed.JudgedNo text)) does = record {
    gives = sym (answer_same one bytes) ∙ does.is;
    sound = refused_fails bytes text does.sound;
    refused = tt;
  }
  judge_does one bytes (Err refusal) does = record {
    gives = subst (λ (answer : Ending). Gives answer (Err refusal)) (answer_same one bytes)
        (rest_gives (meaning_of sheet.policy) per_task_meaning sheet deadlines bytes (Err refusal) does);
    sound = tt;
    refused = refusal_is (cert_verdict_of (meaning_of sheet.policy) per_task_meaning (sbf_of sheet.supply) sheet deadlines bytes) refusal does.is;
  }

-- a certificate that was judged whole, and one that could not be read
module _ (p : PolicyMeaning) (m : CutMeaning) (sheet : SheetParts) (deadlines : Bool) (name : List ℕ) (before after : Outside) (status : ℕ) where
  pub judged_whole : (bytes : List ℕ) (v : Verdict) → IsFileReading source.Certificate name before.shelf after.shelf (Ok bytes) →
      RestDoes p m sheet deadlines bytes (verdict_ending sheet v) → Told (verdict_ending sheet v) before.sinks after.sinks status →
      Judged p m sheet deadlines name before after status
  judged_whole bytes v reading does told = record {
    ending = verdict_ending sheet v;
    reads = record { gave = Ok bytes; reading = reading; after = does };
    told = told;
    no_memory = verdict_never sheet v;
  }

  pub judged_unread : (refusal : Refusal) → IsFileReading source.Certificate name before.shelf after.shelf (Err refusal) → refusal ≢ Memory →
      Told (Err refusal) before.sinks after.sinks status → Judged p m sheet deadlines name before after status
  judged_unread refusal reading never told = record {
    ending = Err refusal;
    reads = record { gave = Err refusal; reading = reading; after = refl };
    told = told;
    no_memory = λ e. let same : refusal ≡ Memory = cc in never same;
  }

-- what comes after a step, by what that means
after_map : {A B : Type 0} (P Q : A → Result B Refusal → Type 0) (gave : Result A Refusal) (result : Result B Refusal) →
    ((a : A) → P a result → Q a result) → After P gave result → After Q gave result
after_map P Q (Ok a) result f after = f a after
after_map P Q (Err refusal) result f after = after

-- where a sheet was read, memory may be wanting after that
unmade_by : (name : List ℕ) (before now : ShelfAt) (sheet : SheetParts) (gave : Result (List ℕ) Refusal) →
    After (λ bytes. Gives (sheet_by bytes)) gave (Ok sheet) → After (λ bytes. Gives (sheet_by bytes)) gave (Err Memory)
unmade_by name before now sheet (Ok bytes) after = tt
unmade_by name before now sheet (Err refusal) after = absurd (cc)

read_unmade : (name : List ℕ) (before now : ShelfAt) (sheet : SheetParts) → ReadsSheet name before now (Ok sheet) → ReadsSheet name before now (Err Memory)
read_unmade name before now sheet read =
    record { gave = read.gave; reading = read.reading; after = unmade_by name before now sheet read.gave read.after }

-- `check`, where the sheet was read
module _ (sheet_name name : List ℕ) (deadlines : Bool) (before middle after : Outside) (status : ℕ) (same : middle.sinks ≡ before.sinks)
    (one : HaveOneReading cert_format cert_of_text) (sheet : SheetParts) (read : ReadsSheet sheet_name before.shelf middle.shelf (Ok sheet)) where
  check_judged : Judged (meaning_of sheet.policy) per_task_meaning sheet deadlines name middle after status →
      Did (Some (CheckOf sheet_name name deadlines)) before after status
  check_judged judged = record {
    ending = judged.ending;
    does = record {
      gave = Ok sheet;
      middle = middle.shelf;
      sheet = read;
      next = record {
        gave = judged.reads.gave;
        reading = judged.reads.reading;
        after = after_map (RestDoes (meaning_of sheet.policy) per_task_meaning sheet deadlines) (JudgeDoes accepted_for deadlines sheet)
            judged.reads.gave judged.ending (λ bytes does. judge_does sheet deadlines one bytes judged.ending does) judged.reads.after;
      };
    };
    told = subst (λ (s : Outlets). Told judged.ending s after.sinks status) same judged.told;
  }

  check_unmade : HadNoMemory middle after status → Did (Some (CheckOf sheet_name name deadlines)) before after status
  check_unmade had = record {
    ending = Err Memory;
    does = record { gave = Err Memory; middle = middle.shelf; sheet = read_unmade sheet_name before.shelf middle.shelf sheet read; next = (had.none, refl) };
    told = subst (λ (s : Outlets). Told (Err Memory) s after.sinks status) same had.told;
  }

  pub check_did : JudgedUnless (meaning_of sheet.policy) per_task_meaning sheet deadlines name middle after status →
      Did (Some (CheckOf sheet_name name deadlines)) before after status
  check_did (inl judged) = check_judged judged
  check_did (inr had) = check_unmade had

-- `check`, where the sheet was not read
pub check_refused : (sheet_name name : List ℕ) (deadlines : Bool) (before middle after : Outside) (status : ℕ) → middle.sinks ≡ before.sinks →
    after.shelf ≡ middle.shelf → (refusal : Refusal) → ReadsSheet sheet_name before.shelf middle.shelf (Err refusal) →
    Told (Err refusal) middle.sinks after.sinks status → Did (Some (CheckOf sheet_name name deadlines)) before after status
check_refused sheet_name name deadlines before middle after status same none refusal read told = record {
  ending = Err refusal;
  does = record { gave = Err refusal; middle = middle.shelf; sheet = read; next = (none, refl) };
  told = subst (λ (s : Outlets). Told (Err refusal) s after.sinks status) same told;
}

has_count : (p : PolicyMeaning) (m : CutMeaning) (sbf : ℕ → ℕ) (sheet : SheetParts) (deadlines : Bool) (v : Verdict) →
    IsBoundedBy p m sbf sheet deadlines v → HasCount sheet v
has_count p m sbf sheet deadlines (verdict.Accepted bounds) sound = sound.count
has_count p m sbf sheet deadlines (verdict.Text line) sound = tt
has_count p m sbf sheet deadlines (verdict.Refused failed) sound = tt

-- a checker that a file was poured into
module _ {S : Type 0} (p : PolicyMeaning) (m : CutMeaning) (sbf : S → ℕ → ℕ) (sheet : SheetParts) (first last : CheckerParts S)
    (fed : IsAt p m sbf first (record { sheet = sheet; supply = first.supply; deadlines = first.deadlines }) [])
    (supplied : sbf first.supply ≡ sbf_of sheet.supply) (bytes : List ℕ) (ate : Ate (IsAt p m sbf) first last bytes) where
  abbrev made : MadeWith S
  made = record { sheet = sheet; supply = first.supply; deadlines = first.deadlines }

  now_at : IsAt p m sbf last made bytes
  now_at = ate.stands made [] fed

  bounded_here : (v : Verdict) → IsBoundedBy p m (sbf last.supply) last.sheet last.deadlines v → IsBoundedBy p m (sbf_of sheet.supply) sheet first.deadlines v
  bounded_here v bounded =
      subst (λ (s : ℕ → ℕ). IsBoundedBy p m s sheet first.deadlines v) supplied
      (subst (λ s. IsBoundedBy p m (sbf s) sheet first.deadlines v) now_at.supply_is
      (subst (λ (s : SheetParts). IsBoundedBy p m (sbf last.supply) s first.deadlines v) now_at.sheet_is
      (subst (λ (d : Bool). IsBoundedBy p m (sbf last.supply) last.sheet d v) now_at.deadlines_are bounded)))

  pub poured_count : (v : Verdict) → IsBoundedBy p m (sbf last.supply) last.sheet last.deadlines v → HasCount sheet v
  poured_count v bounded = has_count p m (sbf_of sheet.supply) sheet first.deadlines v (bounded_here v bounded)

  pub poured_does : (v : Verdict)
      → ((one : MadeWith S) (b : List ℕ) → IsAt p m sbf last one b → v ≡ cert_verdict_of p m (sbf one.supply) one.sheet one.deadlines b)
      → ((one : MadeWith S) (b : List ℕ) → IsAt p m sbf last one b → IsVerdict p m (sbf one.supply) one.sheet one.deadlines b v)
      → IsBoundedBy p m (sbf last.supply) last.sheet last.deadlines v → RestDoes p m sheet first.deadlines bytes (verdict_ending sheet v)
  poured_does v defined judged bounded =
      rest_does p m sheet first.deadlines bytes v
      (defined made bytes now_at ∙ ap (λ (s : ℕ → ℕ). cert_verdict_of p m s sheet first.deadlines bytes) supplied)
      (subst (λ (s : ℕ → ℕ). IsVerdict p m s sheet first.deadlines bytes v) supplied (judged made bytes now_at)) (bounded_here v bounded)
