use Rattle.solver.proofs.GroupFacts.{single_of}
use Rattle.solver.proofs.groups.single_lag.Goals as goal

pub returns-clause-behind : goal.returns-clause-behind
returns-clause-behind c =
    single_of c.args.sheet.now c.args.group.now c.args.o c.lag.result c.task-task.result.now c.task-task.ensures.task
    (c.task-task.ensures.valid.each c.args.o c.requires.task) c.lag.ensures.behind
