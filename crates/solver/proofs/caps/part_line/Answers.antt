use Rattle.solver.proofs.LoadFacts.{part_under, part_flat}
use Rattle.solver.proofs.caps.part_line.Goals as goal

pub returns-then-horizon-long-clause-under : goal.returns-then-horizon-long-clause-under
returns-then-horizon-long-clause-under g c =
    part_flat g.P.Policy.meaning c.args.sheet.now c.args.i c.args.o c.args.x c.task-task.result.now c.task-task.ensures.task
    c.task-task.ensures.valid c.requires.o

pub returns-then-class-clause-under : goal.returns-then-class-clause-under
returns-then-class-clause-under g c =
    part_under g.P.Policy.meaning c.args.sheet.now c.args.i c.args.o c.args.x c.task-task.result.now c.task-task.ensures.task
    c.slope.result (cc) c.slope.ensures.under

pub returns-else-class-clause-under : goal.returns-else-class-clause-under
returns-else-class-clause-under g c =
    part_flat g.P.Policy.meaning c.args.sheet.now c.args.i c.args.o c.args.x c.task-task.result.now c.task-task.ensures.task
    c.task-task.ensures.valid c.requires.o
