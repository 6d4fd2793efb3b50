use Rattle.meter.proofs.MoveFacts.{IsSeating}
use Rattle.meter.proofs.moves.seat.Given as goal

abbrev pub invariant-loop-o : goal.invariant-loop-o
invariant-loop-o g l = IsSeating g.P.Policy.meaning l.sheet l.i l.o l.tracks
