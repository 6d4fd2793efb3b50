use Rattle.std.proofs.Common.{◌≡◌, drop}
use Rattle.preemption.specs.Cuts.{are_lengths_within}
use Rattle.preemption.proofs.segments.are_lengths_within.Given as goal

abbrev pub invariant-loop-segment : goal.invariant-loop-segment
invariant-loop-segment l = are_lengths_within l.bound (drop l.segment-index l.segments) ≡ are_lengths_within l.bound l.segments
