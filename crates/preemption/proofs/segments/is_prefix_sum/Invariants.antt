use Rattle.std.proofs.Common.{◌≡◌, drop}
use Rattle.preemption.specs.Cuts.{is_prefix_sum}
use Rattle.preemption.proofs.segments.is_prefix_sum.Given as goal

abbrev pub invariant-loop-segment : goal.invariant-loop-segment
invariant-loop-segment l = is_prefix_sum (drop l.segment-index l.segments) l.left ≡ is_prefix_sum l.segments l.s
