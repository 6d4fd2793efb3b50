-- What status 1 says: of the bytes that were read, and of the text that was printed.
use Rattle.std.specs.Prelude.{◌≡◌, ℕ, Bool, List, Some}
use Rattle.poet_io.specs.Texts.{Parses}
use Rattle.task_sheet.specs.SheetParts.{SheetParts}
use Rattle.policy_more.specs.Meanings.{meaning_of}
use Rattle.preemption.specs.Kinds.{per_task_meaning}
use Rattle.supply.specs.Promises.{sbf_of}
use Rattle.certificate.specs.declared.cert.Cert.{Cert}
use Rattle.certificate.specs.Text.{cert_format}
use Rattle.conditions.specs.declared.failed.Failed.{Failed}
use Rattle.conditions.specs.Conditions.{failed_of}
use Rattle.run_model.specs.declared.run.Run.{Run}
use Rattle.run_text.specs.Text.{run_format}
use Rattle.schedule_laws.specs.Compliance.{IsCompliant}
use Rattle.poet_text.specs.declared.printed.Printed.TheVariants as printed
use Rattle.poet_text.specs.Printing.{refused_text}
use Rattle.poet_text.specs.RunPrinting.{audit_print}
use Rattle.poet_cli.specs.RunAnswers.{audit_for}

-- the certificate fails to meet a condition, and the text tells the first
pub record Fails (sheet : SheetParts) (deadlines : Bool) (cert : Cert) (text : List ℕ)
    : Type 0 where
  pub first : Failed
  pub fails : failed_of (meaning_of sheet.policy) per_task_meaning
      (sbf_of sheet.supply) sheet deadlines cert ≡ Some first
  pub printed : text ≡ refused_text sheet first

-- the bytes are a certificate, and it fails to meet a condition
pub record CertificateFails (sheet : SheetParts) (deadlines : Bool) (bytes text : List ℕ)
    : Type 0 where
  pub cert : Cert
  pub reads : Parses cert_format bytes cert
  pub failing : Fails sheet deadlines cert text

-- the run does not comply with the sheet
abbrev pub RunBreaks : SheetParts → Run → Type 0
RunBreaks sheet run =
    IsCompliant (meaning_of sheet.policy) per_task_meaning (sbf_of sheet.supply) sheet run → ⊥

-- the bytes are a run, and it does not comply with the sheet; and the text tells the first broken rule
pub record RunFails (sheet : SheetParts) (bytes text : List ℕ) : Type 0 where
  pub run : Run
  pub reads : Parses run_format bytes run
  pub breaks : RunBreaks sheet run
  pub printed : audit_print sheet (audit_for sheet run) ≡ printed.JudgedNo text

-- no text is one of status 1
abbrev pub Never : List ℕ → Type 0
Never text = ⊥
