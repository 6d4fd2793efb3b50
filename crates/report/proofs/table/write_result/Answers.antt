use Rattle.std.proofs.Common.{lit<, ◌≡◌, ◌++◌, append_assoc, codes, OnOk}
use Rattle.std.specs.String.{string_bytes}
use Rattle.std.specs.Fmt.{styled_text}
use Rattle.report.specs.TextReport.{result_word}
use Rattle.report.proofs.table.write_result.Goals as goal
use Rattle.report.proofs.PaddingFacts.{left_column, bar_column, word_printable, word_length}
use Rattle.std.proofs.Math.Nat.{sub-zero}

pub returns : goal.returns
returns c =
    let written : OnOk c.writeln.result
    (string_bytes c.writeln.new.self ≡ string_bytes c.args.text.now ++ (codes " " ++ (styled_text c.laid_out.result c.result_word-result.result.now
    ++ (codes " " ++ (styled_text c.laid_out-2.result c.range-bar.result.now ++ codes "\n"))))) = c.writeln.ensures.bytes in
    let word = left_column 6 32 (result_word (c.args.task.now, c.args.entry.now)) (lit< tt)
    (word_length (c.args.task.now, c.args.entry.now)) (lit< tt) (word_printable (c.args.task.now, c.args.entry.now)) in
    let cut = rw sub-zero at c.range-bar.ensures.value in
    let bar = bar_column c.marks.result c.range-bar.result.now c.marks.ensures.few cut in
    let columns = rw (c.laid_out.ensures, c.laid_out-2.ensures, c.result_word-result.ensures, word, bar, c.marks.ensures.marks) at written in
    simp append_assoc (simp append_assoc at columns)
