use Rattle.meter.proofs.MoveFacts.{IsFalling}
use Rattle.meter.proofs.moves.fall.Given as goal

abbrev pub invariant-loop-o : goal.invariant-loop-o
invariant-loop-o g l = IsFalling g.P.Policy.meaning l.sheet l.i l.x l.o l.fn.tracks l.tracks
