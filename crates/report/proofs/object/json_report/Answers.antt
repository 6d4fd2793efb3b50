use Rattle.std.proofs.Common.{◌≡◌, ◌∙◌, ap, rules, false, codes, ◌++◌, List, ℕ}
use Rattle.std.specs.String.{string_bytes}
use Rattle.serde_json.specs.View.{view}
use Rattle.serde_json.specs.Written.{has_float, compact_text}
use Rattle.report.specs.JsonReport.{report_data}
use Rattle.report.proofs.JsonFacts.{no_float, report}
use Rattle.report.proofs.object.json_report.Goals as goal

pub returns-clause-value : goal.returns-clause-value
returns-clause-value c =
    let built = c.in_ok-report_value.ensures in
    let plain : has_float (view c.in_ok-report_value.field-0) ≡ false = rw built (no_float c.args.sheet.now c.args.cert.now) in
    let text : string_bytes c.in_ok-text.text ≡ compact_text (report_data c.args.sheet.now c.args.cert.now) = rw built at (c.in_ok-text.ensures.text plain) in
    let line : c.into_bytes.result.items ≡ string_bytes c.in_ok-text.text ++ codes "\n" = search rules in
    line ∙ ap (λ (t : List ℕ). t ++ codes "\n") text

pub returns-clause-bytes : goal.returns-clause-bytes
returns-clause-bytes c =
    let built = c.in_ok-report_value.ensures in
    let plain : has_float (view c.in_ok-report_value.field-0) ≡ false = rw built (no_float c.args.sheet.now c.args.cert.now) in
    let text : string_bytes c.in_ok-text.text ≡ compact_text (report_data c.args.sheet.now c.args.cert.now) = rw built at (c.in_ok-text.ensures.text plain) in
    let line : c.into_bytes.result.items ≡ string_bytes c.in_ok-text.text ++ codes "\n" = search rules in
    line ∙ ap (λ (t : List ℕ). t ++ codes "\n") text ∙ report c.args.sheet.now c.args.cert.now
