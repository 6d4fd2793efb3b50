use Rattle.std.proofs.Common.{rules, IsErr, ap, get_or}
use Rattle.task_sheet.specs.declared.tasks.Task.{Task}
use Rattle.task_sheet.specs.Sheets.{no_task}
use Rattle.poet_text.specs.Printing.{bound_line}
use Rattle.poet_text.proofs.WritingFacts.{wrote_as}
use Rattle.poet_text.proofs.VerdictTexts.{bounds_fail}
use Rattle.poet_text.proofs.verdict_writing.write_bounds.Goals as goal

pub returns-in_err-write_bound : goal.returns-in_err-write_bound
returns-in_err-write_bound g c =
    let w : IsErr c.write_bound.result = search rules in
    let inv = c.loop-i.invariant in
    bounds_fail _ _ _ _ _ _ c.args.sheet.now.tasks c.args.bounds.now c.loop-i.i no_task 0 inv.done c.write_bound.result c.from_residual.result
    (search rules) (search rules) inv.rest inv.later inv.so_far w c.from_residual.ensures.0
    (wrote_as _ _ _ _ _ _ _ (ap (λ (t : Task). bound_line t (get_or c.args.bounds.now c.loop-i.i 0)) c.task.ensures.task) c.write_bound.ensures)
