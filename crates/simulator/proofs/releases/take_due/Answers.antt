use Rattle.simulator.proofs.QueueFacts.{none_due}
use Rattle.simulator.proofs.releases.take_due.Goals as goal

pub returns-then-due-t-clause-none : goal.returns-then-due-t-clause-none
returns-then-due-t-clause-none c = none_due c.args.t c.args.coming.now c.in-Some.due.now c.in-Some.ensures.least c.if-due-t.true
