use Rattle.std.proofs.Common.{lit<, ◌≡◌, ◌++◌, codes, OnOk}
use Rattle.std.specs.String.{string_bytes}
use Rattle.std.specs.Fmt.{styled_text, styled_decimal}
use Rattle.report.proofs.table.write_task.Goals as goal
use Rattle.report.proofs.PaddingFacts.{name_length, left_column, right_column}
use Rattle.std.proofs.lemmas.Bool.{and_parts}

pub returns : goal.returns
returns c =
    let written : OnOk c.write.result (string_bytes c.write.new.self ≡ string_bytes c.args.text.now ++ (styled_text c.laid_out.result c.as_str-name.result.now
    ++ (codes " " ++ (styled_decimal c.laid_out-2.result c.args.task.now.cost ++
    (codes " " ++ styled_decimal c.laid_out-3.result c.args.task.now.deadline))))) = c.write.ensures.bytes in
    let name = left_column 16 32 c.args.task.now.name (lit< tt) (name_length _ c.requires.name) (lit< tt) (and_parts _ _ c.requires.name).1 in
    let cost = right_column 10 c.args.task.now.cost (lit< tt) in
    let deadline = right_column 10 c.args.task.now.deadline (lit< tt) in
    rw (c.laid_out.ensures, c.laid_out-2.ensures, c.laid_out-3.ensures, c.as_str-name.ensures, name, cost, deadline) at written
