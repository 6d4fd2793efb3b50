use Rattle.audit.specs.ArrivalOrder.{AreFirstArrivals}
use Rattle.audit.proofs.arrivals.listed_arrivals.Given as goal

abbrev pub invariant-loop-k : goal.invariant-loop-k
invariant-loop-k l = AreFirstArrivals l.run l.k l.arrivals.items
