-- What a report prints.
use Rattle.std.specs.Prelude.{ℕ, List}
use Rattle.task_sheet.specs.SheetParts.{SheetParts}
use Rattle.certificate.specs.declared.cert.Cert.{Cert}
use Rattle.report.specs.TextReport.{text_report_of}
use Rattle.report.specs.JsonReport.{json_report_of}
use Rattle.poet_text.specs.declared.grammar.Form.{Form}
use Rattle.poet_text.specs.declared.grammar.Form.TheVariants as forms

-- the bytes of a report
abbrev pub report_of : Form → SheetParts → Cert → List ℕ
report_of forms.Text sheet cert = text_report_of sheet cert
report_of forms.Json sheet cert = json_report_of sheet cert
