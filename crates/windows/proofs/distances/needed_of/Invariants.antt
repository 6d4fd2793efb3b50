use Rattle.windows.specs.Distances.{AreNeededBelow}
use Rattle.windows.proofs.distances.needed_of.Given as goal

abbrev pub invariant-loop-m : goal.invariant-loop-m
invariant-loop-m l = AreNeededBelow l.spans l.m l.needed.items
