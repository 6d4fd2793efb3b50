use Rattle.std.proofs.Common.{◌+◌, arith}
use Rattle.solver.proofs.GroupFacts.{stair_of_high}
use Rattle.solver.proofs.groups.stretch_of.Goals as goal

pub overflow_mul-result : goal.overflow_mul-result
overflow_mul-result c =
    let task = c.task-task.result.now in
    let short = c.task-task.ensures.jitter in
    omega (
      arith,
      stair_of_high c.args.sheet.now c.args.o task c.task-task.ensures.task (c.task-task.ensures.valid.each c.args.o c.requires.task)
          (c.args.d + task.jitter) c.stair-stair.result (omega (arith, short, c.requires.before, c.requires.end)) c.stair-stair.ensures,
    )

pub returns-clause-bound : goal.returns-clause-bound
returns-clause-bound c =
    let task = c.task-task.result.now in
    let short = c.task-task.ensures.jitter in
    omega (
      arith,
      stair_of_high c.args.sheet.now c.args.o task c.task-task.ensures.task (c.task-task.ensures.valid.each c.args.o c.requires.task)
          (c.args.d + task.jitter) c.stair-stair.result (omega (arith, short, c.requires.before, c.requires.end)) c.stair-stair.ensures,
    )
