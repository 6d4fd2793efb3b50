use Rattle.std.proofs.Common.{arith}
use Rattle.meter.proofs.SoonestFacts.{climb_begun, climbed_one, climbed}
use Rattle.meter.proofs.soonest.renew.Goals as goal

pub loop-at-init : goal.loop-at-init
loop-at-init c = climb_begun c.args.tree.now c.args.leaf c.args.key c.requires.leaf c.requires.within c.requires.nodes

pub loop-at-preserved : goal.loop-at-preserved
loop-at-preserved c =
    climbed_one c.args.tree.now c.args.leaf c.args.key c.loop-at.at c.loop-at.least c.sibling.result c.min-least.result c.loop-at.tree
    c.requires.even (omega arith) c.sibling.ensures (omega arith) c.loop-at.invariant

pub returns : goal.returns
returns c = climbed c.args.tree.now c.args.leaf c.args.key c.loop-at.at c.loop-at.least c.loop-at.tree (omega arith) c.loop-at.invariant
