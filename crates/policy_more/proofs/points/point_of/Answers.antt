use Rattle.std.proofs.Common.{rules, ◌≡◌, ℤ, arith}
use Rattle.std.proofs.lemmas.Int.{ints}
use Rattle.task_sheet.specs.Sheets.{task_at}
use Rattle.task_sheet.specs.Limits.{point_low, point_high}
use Rattle.policy_more.proofs.points.point_of.Goals as goal

pub returns-clause-low : goal.returns-clause-low
returns-clause-low c =
    let task = task_at c.args.sheet.now c.args.i in
    let valid = c.task.ensures.valid.each c.args.i c.requires in
    let low = point_low task valid in
    let high = point_high task valid in
    rw c.task.ensures.task (omega (arith, ints))
