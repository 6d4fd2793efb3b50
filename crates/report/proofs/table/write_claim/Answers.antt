use Rattle.std.proofs.Common.{lit<, ◌≡◌, ◌++◌, length, codes, OnOk}
use Rattle.std.specs.String.{string_bytes}
use Rattle.std.specs.Fmt.{styled_decimal}
use Rattle.report.proofs.table.write_claim.Goals as goal
use Rattle.report.proofs.PaddingFacts.{right_column}

pub returns : goal.returns
returns c =
    let written : OnOk c.write.result
    (string_bytes c.write.new.self ≡ string_bytes c.args.text.now ++ (codes " " ++ (styled_decimal c.laid_out.result c.args.entry.now.bound
    ++ (codes " " ++ (styled_decimal c.laid_out-2.result c.args.entry.now.window ++
    (codes " " ++ styled_decimal c.laid_out-3.result c.len-points.result)))))) = c.write.ensures.bytes in
    let bound = right_column 10 c.args.entry.now.bound (lit< tt) in
    let window = right_column 10 c.args.entry.now.window (lit< tt) in
    let points = right_column 7 (length c.args.entry.now.points) (lit< tt) in
    rw (c.laid_out.ensures, c.laid_out-2.ensures, c.laid_out-3.ensures, c.len-points.ensures, bound, window, points) at written
