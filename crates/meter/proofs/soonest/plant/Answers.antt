use Rattle.std.proofs.Common.{arith}
use Rattle.meter.proofs.SoonestFacts.{plant_begun, planted_one, planted}
use Rattle.meter.proofs.soonest.plant.Goals as goal

pub loop-k-init : goal.loop-k-init
loop-k-init c = plant_begun c.args.count c.args.tree.now c.requires.zeros

pub loop-k-preserved : goal.loop-k-preserved
loop-k-preserved c = planted_one c.args.count c.loop-k.k c.loop-k.tree c.renew.new.tree (omega arith) c.loop-k.invariant c.renew.ensures

pub returns : goal.returns
returns c = planted c.args.count c.loop-k.k c.loop-k.tree c.requires.some c.requires.few (omega arith) c.loop-k.invariant
