-- What follows from a verdict, and what a verdict follows from.
use Rattle.std.specs.Prelude.{◌≡◌, ℕ, Bool, List, None}
use Rattle.task_sheet.specs.SheetParts.{SheetParts}
use Rattle.task_sheet.specs.Sheets.{IsValidSheet}
use Rattle.policy.specs.PolicyMeaning.{PolicyMeaning}
use Rattle.preemption.specs.CutMeaning.{CutMeaning}
use Rattle.preemption.specs.CutLaws.{Serves}
use Rattle.certificate.specs.declared.cert.Cert.{Cert}
use Rattle.certificate.specs.Text.{IsWithinGrammar, text_of}
use Rattle.conditions.specs.Conditions.{failed_of}
use Rattle.cert_check.specs.declared.judging.Verdict.TheVariants.{Accepted}
use Rattle.cert_check.specs.Verdicts.{bounds_of, cert_verdict_of, AreSound}

-- the text of a certificate that meets the conditions is accepted, with its bounds
abbrev pub MeetingIsAccepted : PolicyMeaning → CutMeaning → (ℕ → ℕ) → Type 0
MeetingIsAccepted p m sbf =
    (sheet : SheetParts) (deadlines : Bool) (cert : Cert) → IsWithinGrammar cert → failed_of p m sbf sheet deadlines cert ≡ None →
    cert_verdict_of p m sbf sheet deadlines (text_of cert) ≡ Accepted (bounds_of cert)

-- bounds that are accepted hold, and so do deadlines that were judged
abbrev pub AcceptedIsSound : PolicyMeaning → CutMeaning → (ℕ → ℕ) → Type 0
AcceptedIsSound p m sbf =
    (sheet : SheetParts) → IsValidSheet sheet → Serves m sheet → (deadlines : Bool) (bytes bounds : List ℕ) →
    cert_verdict_of p m sbf sheet deadlines bytes ≡ Accepted bounds → AreSound p m sbf sheet deadlines bounds
