use Rattle.std.proofs.Common.{length}
use Rattle.meter.specs.Soonests.{left_to}
use Rattle.meter.proofs.MoveFacts.{IsRecounting}
use Rattle.meter.proofs.moves.advance.Given as goal

abbrev pub invariant-loop-tracks : goal.invariant-loop-tracks
invariant-loop-tracks g l = IsRecounting g.P.Policy.meaning l.sheet l.i l.b l.x l.tracks

abbrev pub decreases-loop-tracks : goal.decreases-loop-tracks
decreases-loop-tracks g l = left_to l.tracks.changes l.b (length l.sheet.tasks)
