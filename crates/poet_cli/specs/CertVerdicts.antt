-- How the judgement of a certificate's bytes ends, by any policy and kind of preemption.
use Rattle.std.specs.Prelude.{◌≡◌, ◌≢◌, ◌⊎◌, ℕ, Bool, List, length, Option, Ok, Err, IfOk}
use Rattle.poet_io.specs.declared.log.Event.{Event}
use Rattle.poet_io.specs.Shelves.{Files}
use Rattle.task_sheet.specs.SheetParts.{SheetParts}
use Rattle.policy.specs.PolicyMeaning.{PolicyMeaning}
use Rattle.preemption.specs.CutMeaning.{CutMeaning}
use Rattle.supply.specs.Promises.{sbf_of}
use Rattle.conditions.specs.declared.failed.Failed.{Failed}
use Rattle.cert_check.specs.declared.judging.Verdict.{Verdict}
use Rattle.cert_check.specs.declared.judging.Verdict.TheVariants as verdict
use Rattle.cert_check.specs.Verdicts.{cert_verdict_of, IsAccepted, IsRefused, AreSound}
use Rattle.poet_text.specs.declared.refusal.Source.TheVariants as source
use Rattle.poet_text.specs.declared.refusal.Refusal.{Refusal}
use Rattle.poet_text.specs.declared.refusal.Refusal.TheVariants.{Text, Memory}
use Rattle.poet_text.specs.declared.printed.Printed.TheVariants as printed
use Rattle.poet_text.specs.Endings.{Ending, next, IsSound}
use Rattle.poet_text.specs.Printing.{accepted_text, refused_text}
use Rattle.poet_text.specs.Tellings.{Told}
use Rattle.poet_cli.specs.Answers.{file_in}
use Rattle.poet_cli.specs.Refusing.{IsNoRefusal, MayRefuse, IsThis}
use Rattle.poet_io.specs.Eaters.{Ate}
use Rattle.poet_cli.specs.Readings.{ShelfAt, IsFileReading}
use Rattle.poet_cli.specs.Steps.{Reads}
use Rattle.poet_cli.specs.Origins.{OfFile}
use Rattle.poet_cli.specs.Clauses.{Outside}

-- what is printed of a verdict, or the line of the text's refusal
abbrev pub verdict_ending : SheetParts → Verdict → Ending
verdict_ending sheet (verdict.Accepted bounds) = Ok (printed.Done (accepted_text sheet bounds))
verdict_ending sheet (verdict.Text line) = Err (Text source.Certificate line)
verdict_ending sheet (verdict.Refused failed) = Ok (printed.JudgedNo (refused_text sheet failed))

-- an accepted certificate has a bound for each task
abbrev pub HasCount : SheetParts → Verdict → Type 0
HasCount sheet (verdict.Accepted bounds) = length bounds ≡ length sheet.tasks
HasCount sheet (verdict.Text line) = Unit {0}
HasCount sheet (verdict.Refused failed) = Unit {0}

module _ (p : PolicyMeaning) (m : CutMeaning) (sheet : SheetParts) (deadlines : Bool) where
  -- the answer over the bytes of a certificate
  abbrev pub rest_by : List ℕ → Ending
  rest_by bytes = verdict_ending sheet (cert_verdict_of p m (sbf_of sheet.supply) sheet deadlines bytes)

  -- the answer over the files of a shelf, one of which has this name
  abbrev pub rest_of : List ℕ → Files → Ending
  rest_of name files = next (file_in source.Certificate name files) rest_by

-- what status 0 says: the bytes are accepted with these bounds, which bound the response times of every compliant run
pub record AcceptedHolds (p : PolicyMeaning) (m : CutMeaning) (sheet : SheetParts) (deadlines : Bool) (bytes text : List ℕ)
    : Type 0 where
  pub bounds : List ℕ
  pub accepted : IsAccepted p m (sbf_of sheet.supply) sheet deadlines bytes bounds
  pub sound : AreSound p m (sbf_of sheet.supply) sheet deadlines bounds
  pub printed : text ≡ accepted_text sheet bounds

-- what status 1 says: this is the first condition that the certificate fails to meet
pub record RefusedHolds (p : PolicyMeaning) (m : CutMeaning) (sheet : SheetParts) (deadlines : Bool) (bytes text : List ℕ)
    : Type 0 where
  pub failed : Failed
  pub refused : IsRefused p m (sbf_of sheet.supply) sheet deadlines bytes failed
  pub printed : text ≡ refused_text sheet failed

-- the ending is the answer over the bytes, and what is printed is true
pub record RestDoes (p : PolicyMeaning) (m : CutMeaning) (sheet : SheetParts) (deadlines : Bool) (bytes : List ℕ) (ending : Ending)
    : Type 0 where
  pub is : rest_by p m sheet deadlines bytes ≡ ending
  pub sound : IfOk ending (IsSound (AcceptedHolds p m sheet deadlines bytes) (RefusedHolds p m sheet deadlines bytes))

-- one reading of the certificate's file, whose bytes were eaten
pub record WasFed {Eater Made : Type 0} (Stands : Eater → Made → List ℕ → Type 0) (eater_before eater_now : Eater) (name : List ℕ)
    (before now : ShelfAt) : Type 0 where
  pub bytes : List ℕ
  pub eaten : Ate Stands eater_before eater_now bytes
  pub reading : IsFileReading source.Certificate name before now (Ok bytes)

-- how a certificate was judged, by which calls of the shelf, and how that was told; memory was never wanted
pub record Judged (p : PolicyMeaning) (m : CutMeaning) (sheet : SheetParts) (deadlines : Bool) (name : List ℕ)
    (before after : Outside) (status : ℕ) : Type 0 where
  pub ending : Ending
  pub reads : Reads source.Certificate name (RestDoes p m sheet deadlines) before.shelf after.shelf ending
  pub told : Told ending before.sinks after.sinks status
  pub no_memory : ending ≢ Err Memory

-- the refusals of the certificate's file and text
abbrev pub MayRest : Refusal → Type 0
MayRest Memory = ⊥
MayRest refusal = MayRefuse (IsThis source.Certificate) IsNoRefusal refusal

-- what status 0 says of the bytes of the file that were read, and of the text
abbrev pub RestHeadline : PolicyMeaning → CutMeaning → SheetParts → Bool → List ℕ → Option Files →
    List Event → List Event → List ℕ → Type 0
RestHeadline p m sheet deadlines name told before now text =
    OfFile source.Certificate name told before now
    (λ bytes. AcceptedHolds p m sheet deadlines bytes text)

-- what status 1 says of them
abbrev pub RestObjection : PolicyMeaning → CutMeaning → SheetParts → Bool → List ℕ → Option Files →
    List Event → List Event → List ℕ → Type 0
RestObjection p m sheet deadlines name told before now text =
    OfFile source.Certificate name told before now
    (λ bytes. RefusedHolds p m sheet deadlines bytes text)

-- there was no memory for a checker, and that was told; no call of the shelf
pub record HadNoMemory (before after : Outside) (status : ℕ) : Type 0 where
  pub none : after.shelf ≡ before.shelf
  pub told : Told (Err Memory) before.sinks after.sinks status

-- a checker was made and judged the certificate of a file, unless there was no memory for it
abbrev pub JudgedUnless : PolicyMeaning → CutMeaning → SheetParts → Bool → List ℕ → Outside → Outside → ℕ → Type 0
JudgedUnless p m sheet deadlines name before after status =
    Judged p m sheet deadlines name before after status ⊎ HadNoMemory before after status
