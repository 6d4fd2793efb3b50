use Rattle.std.proofs.Common.{arith}
use Rattle.meter.proofs.MoveFacts.{seated_one, seated_all}
use Rattle.meter.proofs.moves.seat.Goals as goal

pub loop-o-preserved : goal.loop-o-preserved
loop-o-preserved g c = seated_one g.P.Policy.meaning c.args.sheet.now c.args.i c.loop-o.o _ _ c.loop-o.invariant c.settle.ensures.settled c.settle.ensures.few

pub returns : goal.returns
returns g c = seated_all g.P.Policy.meaning c.args.sheet.now c.args.i c.loop-o.o _ c.loop-o.invariant (omega arith)
