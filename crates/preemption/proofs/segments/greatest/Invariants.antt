use Rattle.std.proofs.Common.{◌≡◌, drop, max}
use Rattle.preemption.specs.Cuts.{greatest}
use Rattle.preemption.proofs.segments.greatest.Given as goal

abbrev pub invariant-loop-segment : goal.invariant-loop-segment
invariant-loop-segment l = max l.most (greatest (drop l.segment-index l.segments)) ≡ greatest l.segments
