use Rattle.std.proofs.Common.{drop}
use Rattle.preemption.specs.Segments.{prefix_zero}
use Rattle.preemption.proofs.segments.is_prefix_sum.Goals as goal

pub returns-then-left-eq0 : goal.returns-then-left-eq0
returns-then-left-eq0 c = cc (prefix_zero (drop c.loop-segment.segment-index c.args.segments.now))
