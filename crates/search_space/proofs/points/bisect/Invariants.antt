use Rattle.std.proofs.Common.{◌-◌}
use Rattle.search_space.specs.Points.{IsAround}
use Rattle.search_space.proofs.points.bisect.Given as goal

abbrev pub invariant-loop-other : goal.invariant-loop-other
invariant-loop-other g l = IsAround g.P.Policy.meaning l.sheet l.i l.a l.below l.same l.other

abbrev pub decreases-loop-other : goal.decreases-loop-other
decreases-loop-other g l = l.other - l.same
