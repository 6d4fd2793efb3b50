use Rattle.std.proofs.Common.{arith}
use Rattle.meter.proofs.MoveFacts.{fall_begun, fallen_one, fallen}
use Rattle.meter.proofs.moves.fall.Goals as goal

pub loop-o-init : goal.loop-o-init
loop-o-init g c = fall_begun g.P.Policy.meaning c.args.sheet.now c.args.i c.args.x _ c.requires.tracking c.requires.still

pub loop-o-preserved : goal.loop-o-preserved
loop-o-preserved g c =
    fallen_one g.P.Policy.meaning c.args.sheet.now c.args.i c.args.x c.loop-o.o _ _ _ (omega arith) c.loop-o.invariant c.move_back.ensures

pub returns : goal.returns
returns g c = fallen g.P.Policy.meaning c.args.sheet.now c.args.i c.args.x c.loop-o.o _ _ c.loop-o.invariant (omega arith)
