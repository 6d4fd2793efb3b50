use Rattle.std.proofs.Common.{ap}
use Rattle.task_sheet.specs.declared.tasks.Task.{Task}
use Rattle.assign.proofs.TrialFacts.{good_or_none}
use Rattle.assign.proofs.trials.good_bound.Goals as goal

pub returns : goal.returns
returns g c =
    good_or_none g.M.Preemption.cuts (g.S.Supply.sbf c.args.supply.now) c.args.sheet.now c.args.horizon c.args.i c.task.result.now.deadline
    (ap (λ (t : Task). t.deadline) c.task.ensures.task) c.task_bound.result c.task_bound.ensures.least c.task_bound.ensures.serves
