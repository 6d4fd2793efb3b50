use Rattle.std.proofs.Common.{◌≡◌, ◌+◌, ap, arith, subst}
use Rattle.curve.specs.Stairs.{IsStair}
use Rattle.task_sheet.specs.declared.tasks.Task.{Task}
use Rattle.task_sheet.specs.Sheets.{task_at}
use Rattle.meter.proofs.ChangeFacts.{own_counted}
use Rattle.meter.proofs.changes.own_counting.Goals as goal

pub returns-clause-counted : goal.returns-clause-counted
returns-clause-counted g c =
    let sheet = c.args.sheet.now in
    let i = c.args.i in
    let jitter : c.task-task.result.now.jitter ≡ (task_at sheet i).jitter = ap (λ (task : Task). task.jitter) c.task-task.ensures.task in
    let stair : IsStair (task_at sheet i).curve c.stair-stair.result (c.args.a + 1 + (task_at sheet i).jitter) =
    subst (λ (task : Task). IsStair task.curve c.stair-stair.result (c.args.a + 1 + task.jitter)) c.task-task.ensures.task c.stair-stair.ensures in
    own_counted g.P.Policy.meaning sheet c.task-task.ensures.valid i c.args.a c.requires.offset c.requires.i c.stair-stair.result stair _ (omega (arith, jitter))
