use Rattle.std.proofs.Common.{◌≡◌, drop}
use Rattle.preemption.specs.Cuts.{each_within}
use Rattle.preemption.proofs.segments.each_within.Given as goal

abbrev pub invariant-loop-i : goal.invariant-loop-i
invariant-loop-i l = each_within (drop l.i l.segments) (drop l.i l.bounds) ≡ each_within l.segments l.bounds
