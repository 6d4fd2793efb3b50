use Rattle.std.proofs.Common.{length}
use Rattle.meter.specs.Soonests.{left_to}
use Rattle.meter.proofs.MoveFacts.{IsRising}
use Rattle.meter.proofs.moves.rise.Given as goal

abbrev pub invariant-loop-tracks : goal.invariant-loop-tracks
invariant-loop-tracks g l = IsRising g.P.Policy.meaning l.sheet l.i l.x l.fn.tracks l.tracks

abbrev pub decreases-loop-tracks : goal.decreases-loop-tracks
decreases-loop-tracks g l = left_to l.tracks.untils l.x (length l.sheet.tasks)
