use Rattle.meter.proofs.SoonestFacts.{IsPlanting}
use Rattle.meter.proofs.soonest.plant.Given as goal

abbrev pub invariant-loop-k : goal.invariant-loop-k
invariant-loop-k l = IsPlanting l.count l.k l.tree
