use Rattle.std.proofs.Common.{◌≡◌, ◌==◌, drop, sum}
use Rattle.preemption.proofs.segments.is_sum.Given as goal

abbrev pub invariant-loop-segment : goal.invariant-loop-segment
invariant-loop-segment l = (sum (drop l.segment-index l.segments) == l.left) ≡ (sum l.segments == l.total)
