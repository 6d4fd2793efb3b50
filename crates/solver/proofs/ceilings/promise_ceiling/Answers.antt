use Rattle.solver.proofs.CeilingFacts.{promise_over}
use Rattle.solver.proofs.ceilings.promise_ceiling.Goals as goal

pub returns-clause-over : goal.returns-clause-over
returns-clause-over c = promise_over c.args.horizon c.spare.result c.args.times.now c.requires c.spare.ensures.over
