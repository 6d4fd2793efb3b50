use Rattle.windows.specs.Distances.{DoKeep}
use Rattle.windows.proofs.keeping.keep_each.Given as goal

abbrev pub invariant-loop-j : goal.invariant-loop-j
invariant-loop-j l = DoKeep l.arrivals l.distance l.first l.j
