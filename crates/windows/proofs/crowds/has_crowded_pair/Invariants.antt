use Rattle.windows.proofs.DistanceFacts.{AreKept}
use Rattle.windows.proofs.crowds.has_crowded_pair.Given as goal

abbrev pub invariant-loop-n : goal.invariant-loop-n
invariant-loop-n l = AreKept l.needed l.arrivals l.j l.n
