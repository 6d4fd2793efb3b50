use Rattle.std.proofs.Common.{◌≡◌, ◌<◌, length, arith, ap, map, get_or, ◌∙◌}
use Rattle.serde_json.specs.View.{view}
use Rattle.task_sheet.specs.Sheets.{task_at}
use Rattle.report.specs.JsonReport.{row_data}
use Rattle.report.proofs.RowFacts.{next_values, all_rows}
use Rattle.report.proofs.object.row_values.Goals as goal

pub loop-i-preserved : goal.loop-i-preserved
loop-i-preserved c =
    let lt : c.loop-i.i < length c.args.sheet.now.tasks = omega (arith, c.len-i-end.ensures.len) in
    let e = c.index-as_slice-i.result in
    let entry : e ≡ get_or c.args.cert.now.entries c.loop-i.i e = rw c.as_slice.ensures at c.index-as_slice-i.is in
    let made : view c.in_ok-row_value.field-0 ≡ row_data (task_at c.args.sheet.now c.loop-i.i, get_or c.args.cert.now.entries c.loop-i.i e) =
    rw (← entry, ← c.task.ensures.task) c.in_ok-row_value.ensures in
    next_values view row_data c.loop-i.values.items c.push.new.self.items c.in_ok-row_value.field-0 c.args.sheet.now.tasks
    c.args.cert.now.entries c.loop-i.i e c.requires lt
    c.loop-i.invariant c.in_ok-push.ensures.items made

pub returns : goal.returns
returns c =
    c.loop-i.invariant ∙ ap (map row_data) (all_rows c.args.sheet.now.tasks c.args.cert.now.entries c.loop-i.i (omega (arith, c.len-i-end.ensures.len)))
