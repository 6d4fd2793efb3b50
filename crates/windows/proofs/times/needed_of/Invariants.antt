use Rattle.windows.specs.Times.{AreNeededTimesBelow}
use Rattle.windows.proofs.times.needed_of.Given as goal

abbrev pub invariant-loop-k : goal.invariant-loop-k
invariant-loop-k l = AreNeededTimesBelow l.times l.k l.needed.items
