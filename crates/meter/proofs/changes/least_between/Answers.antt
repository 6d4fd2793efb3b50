use Rattle.std.proofs.Common.{arith}
use Rattle.meter.proofs.CapFacts.{least_past}
use Rattle.meter.proofs.changes.least_between.Goals as goal

pub returns-clause-least : goal.returns-clause-least
returns-clause-least g c =
    let lawful = g.met.P.Policy.lawful c.args.sheet.now c.len-valid.ensures.valid in
    least_past _ _ lawful c.args.i c.args.o c.requires.i c.requires.o c.requires.other c.args.e c.loop-low.low c.loop-low.high
    (omega arith) c.loop-low.invariant.less c.loop-low.invariant.more
