use Rattle.std.proofs.Common.{sym, ◌∙◌, refl, subst, arith}
use Rattle.curve.specs.Stairs.{IsSplit}
use Rattle.curve.proofs.CurveFacts.{rises_from_test}
use Rattle.curve.proofs.StairFacts.{value_none, value_last, back_last}
use Rattle.curve.proofs.searching.landing.Goals as goal

pub returns-then-come-eq0 : goal.returns-then-come-eq0
returns-then-come-eq0 c = record {
  value = sym (value_none c.args.steps.now 0 c.args.begun (subst (IsSplit c.args.steps.now c.args.begun) c.if-come-eq0.true c.requires.come));
  begun = omega arith;
  since = refl;
  until = c.time_of-until.ensures;
}

pub returns : goal.returns
returns c =
    let split = c.requires.come in
    let back = back_last c.args.steps.now c.args.begun c.args.come (record { time = 0; value = 0 })
    (rises_from_test 0 0 c.args.steps.now c.requires.rising) split c.if-come-eq0.false in
    let value = value_last c.args.steps.now c.args.begun c.args.come (record { time = 0; value = 0 }) split c.if-come-eq0.false in
    record {
      value = sym value;
      begun = split.early _ _ (omega (arith, c.if-come-eq0.false));
      since = value_last c.args.steps.now _ c.args.come (record { time = 0; value = 0 }) back c.if-come-eq0.false ∙ sym value;
      until = c.time_of-until.ensures;
    }
