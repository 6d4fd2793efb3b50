use Rattle.std.proofs.Common.{rules, arith, sym, ap, ◌∙◌, ◌≡◌, ◌++◌, append_assoc, length, codes, ℕ, ◌<◌, List, take, get_or}
use Rattle.std.specs.String.{string_bytes}
use Rattle.std.specs.List.{flat_map}
use Rattle.std.specs.Fmt.{decimal}
use Rattle.task_sheet.specs.Sheets.{task_at}
use Rattle.report.specs.Rows.{rows_of}
use Rattle.report.specs.TextReport.{header, row_line, text_report_of, last_line}
use Rattle.report.proofs.table.text_report.Goals as goal
use Rattle.report.proofs.RowFacts.{all_rows, rows_count, next_text}

pub loop-i-preserved : goal.loop-i-preserved
loop-i-preserved c =
    let lt : c.loop-i.i < length c.args.sheet.now.tasks = omega (arith, c.len-i-end.ensures.len) in
    let e = c.index-as_slice-i.result in
    let entry : e ≡ get_or c.args.cert.now.entries c.loop-i.i e = rw c.as_slice.ensures at c.index-as_slice-i.is in
    let line : string_bytes c.write_row.new.text ≡ string_bytes c.loop-i.text ++ row_line (
      task_at c.args.sheet.now c.loop-i.i,
      get_or c.args.cert.now.entries c.loop-i.i e,
    ) =
    rw (← entry, ← c.task.ensures.task) c.in_ok-write_row.ensures in
    next_text row_line header (string_bytes c.loop-i.text) (string_bytes c.write_row.new.text) c.args.sheet.now.tasks
    c.args.cert.now.entries c.loop-i.i e c.requires.tasks lt c.loop-i.invariant line

pub returns : goal.returns
unfolding text_report_of
returns c =
    let rows : take c.loop-i.i (rows_of c.args.sheet.now c.args.cert.now) ≡ rows_of c.args.sheet.now c.args.cert.now =
    all_rows c.args.sheet.now.tasks c.args.cert.now.entries c.loop-i.i (omega (arith, c.len-i-end.ensures.len)) in
    let body = rw rows at c.loop-i.invariant in
    let last : string_bytes c.writeln.new.self ≡ string_bytes c.loop-i.text ++
    (codes "tasks " ++ (decimal c.len-tasks.result ++
    (codes " missed " ++ (decimal c.count_missed-missed.result ++ codes "\n")))) = c.in_ok-writeln.ensures.bytes in
    let count : c.len-tasks.result ≡ length (rows_of c.args.sheet.now c.args.cert.now) = c.len-tasks.ensures.len ∙
    sym (rows_count c.args.sheet.now.tasks c.args.cert.now.entries c.requires.tasks) in
    let whole = rw (count, c.count_missed-missed.ensures) at last in
    let bytes : c.into_bytes.result.items ≡ string_bytes c.writeln.new.self = search rules in
    record {
      bytes = bytes ∙ whole ∙ ap (λ (x : List ℕ). x ++ last_line (rows_of c.args.sheet.now c.args.cert.now)) body ∙
          append_assoc header (flat_map row_line (rows_of c.args.sheet.now c.args.cert.now)) (last_line (rows_of c.args.sheet.now c.args.cert.now));
    }
