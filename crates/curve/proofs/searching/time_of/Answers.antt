use Rattle.std.proofs.Common.{sym}
use Rattle.curve.proofs.StairFacts.{next_split, next_end}
use Rattle.curve.proofs.searching.time_of.Goals as goal

pub returns-then-come-steps : goal.returns-then-come-steps
returns-then-come-steps c = sym (next_split c.args.horizon c.args.steps.now c.args.begun _ _ c.requires.come c.if-come-steps.true)

pub returns-else-come-steps : goal.returns-else-come-steps
returns-else-come-steps c = sym (next_end c.args.horizon c.args.steps.now c.args.begun _ c.requires.come c.if-come-steps.false)
