use Rattle.std.proofs.Common.{◌≡◌, ◌≤◌, rules, string_bytes, true, Some, refl}
use Rattle.std.proofs.lemmas.Str.{is_utf8-from_IsUtf8, IsUtf8-string_bytes}
use Rattle.std.specs.Str.{is_utf8}
use Rattle.toml.specs.Data.{members_depth, table}
use Rattle.toml.specs.View.{table_view}
use Rattle.toml.specs.Parse.{parse_document}
use Rattle.sheet_text.specs.Documents.{document_of}
use Rattle.sheet_print.specs.Printed.{sheet_data}
use Rattle.sheet_text.specs.SheetRows.{sheet_of_text}
use Rattle.sheet_print.proofs.PrintedFacts.{flat_sheet}
use Rattle.sheet_print.proofs.ReadsBack.{sheet_again}
use Rattle.sheet_print.proofs.printing.print_sheet.Goals as goal

pub returns-in-Ok-clause-document : goal.returns-in-Ok-clause-document
returns-in-Ok-clause-document c =
    let s = c.args.sheet.now in
    let seen : table_view c.in_ok-table.table ≡ sheet_data s = c.in_ok-table.ensures.data in
    let flat : members_depth (table_view c.in_ok-table.table) ≤ 80 = rw seen (flat_sheet s.policy s.supply s.tasks) in
    let parsed : parse_document (string_bytes c.in-Ok.text) ≡ Some (sheet_data s) = rw seen at (c.in-Ok.ensures.reads_back flat) in
    let bytes : c.into_bytes.result.items ≡ string_bytes c.in-Ok.text = search rules in
    let text : is_utf8 (string_bytes c.in-Ok.text) ≡ true = is_utf8-from_IsUtf8 (string_bytes c.in-Ok.text) (IsUtf8-string_bytes c.in-Ok.text) in
    rw (bytes, text, parsed) refl

pub returns-in-Ok-clause-reads : goal.returns-in-Ok-clause-reads
unfolding sheet_of_text
returns-in-Ok-clause-reads c =
    let s = c.args.sheet.now in
    let document : document_of c.into_bytes.result.items ≡ Some (table (sheet_data s)) = returns-in-Ok-clause-document c in
    rw document (sheet_again s c.in_ok-table.ensures.valid)
