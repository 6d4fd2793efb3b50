use Rattle.meter.specs.Soonests.{IsClimbing}
use Rattle.meter.proofs.soonest.renew.Given as goal

abbrev pub invariant-loop-at : goal.invariant-loop-at
invariant-loop-at l = IsClimbing l.fn.tree l.leaf l.key l.at l.least l.tree

abbrev pub decreases-loop-at : goal.decreases-loop-at
decreases-loop-at l = l.at
