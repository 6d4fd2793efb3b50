use Rattle.std.proofs.Common.{sym, subst}
use Rattle.curve.specs.Stairs.{IsSplit}
use Rattle.curve.proofs.StairFacts.{value_none, value_last}
use Rattle.curve.proofs.searching.last_value.Goals as goal

pub returns-then-come-eq0 : goal.returns-then-come-eq0
returns-then-come-eq0 c = sym (value_none c.args.steps.now 0 c.args.t (subst (IsSplit c.args.steps.now c.args.t) c.if-come-eq0.true c.steps_to-come.ensures))

pub returns-else-come-eq0 : goal.returns-else-come-eq0
returns-else-come-eq0 c = sym (value_last c.args.steps.now c.args.t _ _ c.steps_to-come.ensures c.if-come-eq0.false)
