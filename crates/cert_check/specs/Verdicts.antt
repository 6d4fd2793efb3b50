use Rattle.std.specs.Prelude.{◌≡◌, ℕ, Bool, true, false, List, map, length, Option, Some, None, Result, Ok, Err}
use Rattle.certificate.specs.declared.cert.Cert.{Cert}
use Rattle.poet_io.specs.declared.text_refusal.TextRefusal.{TextRefusal}
use Rattle.poet_io.specs.declared.text_refusal.TextRefusal.TheVariants.{Line, Memory}
use Rattle.poet_io.specs.Texts.{Parses, IsRefusedAt}
use Rattle.certificate.specs.Text.{cert_format}
use Rattle.certificate.specs.Parsing.{cert_of_text}
use Rattle.conditions.specs.declared.failed.Failed.{Failed}
use Rattle.conditions.specs.Conditions.{failed_of}
use Rattle.policy.specs.PolicyMeaning.{PolicyMeaning}
use Rattle.preemption.specs.CutMeaning.{CutMeaning}
use Rattle.schedule_laws.specs.Bounded.{AreBounded}
use Rattle.task_sheet.specs.SheetParts.{SheetParts}
use Rattle.cert_check.specs.declared.judging.Verdict.{Verdict}
use Rattle.cert_check.specs.declared.judging.Verdict.TheVariants.{Accepted, Text, Refused}

-- the bounds of a certificate, in the tasks' order
abbrev pub bounds_of : Cert → List ℕ
bounds_of cert = map (λ e. e.bound) cert.entries

abbrev pub judged_as : Cert → Option Failed → Verdict
judged_as cert None = Accepted (bounds_of cert)
judged_as cert (Some failed) = Refused failed

-- the verdict over what reading the bytes gives
abbrev pub verdict_by : (Cert → Option Failed) → Result Cert TextRefusal → Verdict
verdict_by failed (Ok cert) = judged_as cert (failed cert)
verdict_by failed (Err (Line line)) = Text line
verdict_by failed (Err Memory) = Text 0

-- the verdict over the bytes of a certificate
unfoldable pub cert_verdict_of : PolicyMeaning → CutMeaning → (ℕ → ℕ) → SheetParts → Bool → List ℕ → Verdict
cert_verdict_of p m sbf sheet deadlines bytes = verdict_by (failed_of p m sbf sheet deadlines) (cert_of_text bytes)

-- the bytes are the text of a certificate of which no condition fails, and these are its bounds
pub record IsAccepted (p : PolicyMeaning) (m : CutMeaning) (sbf : ℕ → ℕ) (sheet : SheetParts) (deadlines : Bool) (bytes : List ℕ)
    (bounds : List ℕ) : Type 0 where
  pub cert : Cert
  pub parses : Parses cert_format bytes cert
  pub meets : failed_of p m sbf sheet deadlines cert ≡ None
  pub bounds_are : bounds ≡ bounds_of cert

-- the bytes are the text of a certificate of which this is the first condition that fails
pub record IsRefused (p : PolicyMeaning) (m : CutMeaning) (sbf : ℕ → ℕ) (sheet : SheetParts) (deadlines : Bool) (bytes : List ℕ)
    (failed : Failed) : Type 0 where
  pub cert : Cert
  pub parses : Parses cert_format bytes cert
  pub fails : failed_of p m sbf sheet deadlines cert ≡ Some failed

-- a verdict, and what it says of the bytes
abbrev pub IsVerdict : PolicyMeaning → CutMeaning → (ℕ → ℕ) → SheetParts → Bool → List ℕ → Verdict → Type 0
IsVerdict p m sbf sheet deadlines bytes (Accepted bounds) = IsAccepted p m sbf sheet deadlines bytes bounds
IsVerdict p m sbf sheet deadlines bytes (Text line) = IsRefusedAt cert_format bytes line
IsVerdict p m sbf sheet deadlines bytes (Refused failed) = IsRefused p m sbf sheet deadlines bytes failed

-- where deadlines are judged, none is missed: they bound the response times of every compliant run
abbrev pub AreInTime : PolicyMeaning → CutMeaning → (ℕ → ℕ) → SheetParts → Bool → Type 0
AreInTime p m sbf sheet false = Unit {0}
AreInTime p m sbf sheet true = AreBounded p m sbf sheet (map (λ t. t.deadline) sheet.tasks)

-- bounds that are accepted are one for each task, and bound the response times of every compliant run
pub record AreSound (p : PolicyMeaning) (m : CutMeaning) (sbf : ℕ → ℕ) (sheet : SheetParts) (deadlines : Bool) (bounds : List ℕ) : Type 0 where
  pub count : length bounds ≡ length sheet.tasks
  pub bounded : AreBounded p m sbf sheet bounds
  pub in_time : AreInTime p m sbf sheet deadlines

abbrev pub IsBoundedBy : PolicyMeaning → CutMeaning → (ℕ → ℕ) → SheetParts → Bool → Verdict → Type 0
IsBoundedBy p m sbf sheet deadlines (Accepted bounds) = AreSound p m sbf sheet deadlines bounds
IsBoundedBy p m sbf sheet deadlines (Text line) = Unit {0}
IsBoundedBy p m sbf sheet deadlines (Refused failed) = Unit {0}
