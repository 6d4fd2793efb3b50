use Rattle.simulator.specs.Gaps.{with_more}
use Rattle.simulator.proofs.MoreFacts.{AreSeen}
use Rattle.simulator.proofs.gaps.earliest_after.Given as goal

abbrev pub invariant-loop-i : goal.invariant-loop-i
invariant-loop-i l = AreSeen l.gaps (with_more l.arrivals l.n l.t) l.i l.tick
