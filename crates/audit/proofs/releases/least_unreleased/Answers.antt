use Rattle.std.proofs.Common.{arith}
use Rattle.audit.proofs.ReleaseFacts.{least_all}
use Rattle.audit.proofs.releases.least_unreleased.Goals as goal

pub returns : goal.returns
returns c = least_all c.args.sheet.now c.args.run.now c.args.order.now c.requires.order c.loop-i.i c.loop-i.least (omega arith) c.loop-i.invariant.least
