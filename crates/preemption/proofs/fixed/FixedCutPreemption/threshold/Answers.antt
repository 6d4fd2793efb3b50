use Rattle.std.proofs.Common.{ap, arith}
use Rattle.task_sheet.specs.Rules.{last_number}
use Rattle.preemption.proofs.SegmentFacts.{last_fits}
use Rattle.preemption.proofs.fixed.FixedCutPreemption.threshold.Goals as goal

pub overflow_sub-result : goal.overflow_sub-result
overflow_sub-result c =
    omega (arith, last_fits c.args.task.now.cut c.args.task.now.cost c.requires.cut, c.last.ensures, ap (last_number 0) c.segments_of.ensures)
