-- What `upgrade` prints: its answer, and what its text says.
use Rattle.std.specs.Prelude.{◌≡◌, ◌≢◌, ℕ, List, length, Ok, Err, nat_le, ◌==◌, if◌then◌else◌}
use Rattle.poet_io.specs.Texts.{Parses}
use Rattle.task_sheet.specs.SheetParts.{SheetParts}
use Rattle.policy_more.specs.Meanings.{meaning_of}
use Rattle.preemption.specs.Kinds.{per_task_meaning}
use Rattle.supply.specs.Promises.{sbf_of}
use Rattle.certificate.specs.declared.cert.Cert.{Cert}
use Rattle.certificate.specs.Text.{cert_format, text_of}
use Rattle.certificate.specs.Parsing.{cert_of_text}
use Rattle.conditions.specs.declared.failed.Cond.TheVariants.{K1}
use Rattle.conditions.specs.Conditions.{of_cert}
use Rattle.conditions.specs.Filled.{with_terms, FailsAlike}
use Rattle.poet_text.specs.declared.printed.Printed.TheVariants as printed
use Rattle.poet_text.specs.declared.refusal.Source.TheVariants as source
use Rattle.poet_text.specs.declared.refusal.Refusal.TheVariants.{LongUpgrade}
use Rattle.poet_text.specs.Refusals.{limit_of}
use Rattle.poet_text.specs.Endings.{Ending, next}
use Rattle.poet_text.specs.Printing.{refused_text}
use Rattle.poet_cli.specs.Answers.{text_read}

-- a certificate in the second version, with the terms of each point, by the sheet's own policy and preemption
abbrev pub upgraded : SheetParts → Cert → Cert
upgraded sheet cert = with_terms (meaning_of sheet.policy) per_task_meaning sheet cert

-- its text, where that is no longer than the file of a certificate may be
abbrev pub upgraded_by : Cert → Ending
upgraded_by cert =
    if nat_le (length (text_of cert)) (limit_of source.Certificate) then Ok (printed.Done (text_of cert)) else Err LongUpgrade

-- no condition is judged but K1
abbrev pub upgrade_of : SheetParts → Cert → Ending
upgrade_of sheet cert =
    if length cert.entries == length sheet.tasks then upgraded_by (upgraded sheet cert)
    else Ok (printed.JudgedNo (refused_text sheet (of_cert K1)))

-- the answer over a sheet and the bytes of a certificate
abbrev pub upgrade_by : SheetParts → List ℕ → Ending
upgrade_by sheet bytes = next (text_read source.Certificate (cert_of_text bytes)) (upgrade_of sheet)

-- there is an entry for each task; the text is that of the certificate with its terms, which the same condition fails, at
-- the same place, as it without terms, and whose bounds are the same
pub record IsUpgrade (sheet : SheetParts) (cert : Cert) (text : List ℕ) : Type 0 where
  pub count : length cert.entries ≡ length sheet.tasks
  pub parses : Parses cert_format text (upgraded sheet cert)
  pub alike : FailsAlike (meaning_of sheet.policy) per_task_meaning (sbf_of sheet.supply) sheet cert

-- there are more or fewer entries than tasks, and the text tells it
pub record IsCountRefusal (sheet : SheetParts) (cert : Cert) (text : List ℕ) : Type 0 where
  pub count : length cert.entries ≢ length sheet.tasks
  pub printed : text ≡ refused_text sheet (of_cert K1)

-- the bytes are a certificate, and the text is its upgrade
pub record UpgradeHolds (sheet : SheetParts) (bytes text : List ℕ) : Type 0 where
  pub cert : Cert
  pub reads : Parses cert_format bytes cert
  pub upgrade : IsUpgrade sheet cert text

-- the bytes are a certificate, and the text tells that its entries are not one for each task
pub record CountFails (sheet : SheetParts) (bytes text : List ℕ) : Type 0 where
  pub cert : Cert
  pub reads : Parses cert_format bytes cert
  pub failing : IsCountRefusal sheet cert text
