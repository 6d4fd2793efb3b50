use Rattle.std.proofs.Common.{arith}
use Rattle.meter.proofs.moves.turn.Goals as goal

pub fall-requires-clause-still : goal.fall-requires-clause-still
fall-requires-clause-still g c k l = omega (arith, (c.requires.ended k l).open_yet)

pub rise-requires-clause-begun : goal.rise-requires-clause-begun
rise-requires-clause-begun g c k l = omega (arith, (c.requires.ended k l).begun)
