use Rattle.std.proofs.Common.{◌≡◌, ◌+◌, ◌*◌, ◌/◌, ◌%◌, ◌≤◌, ap, ◌∙◌, refl, subst, arith}
use Rattle.lists.specs.Limits.{greatest_value}
use Rattle.curve.specs.Curves.{last_value, value_of, alpha_of}
use Rattle.curve.specs.Stairs.{IsLanding}
use Rattle.curve.proofs.CurveFacts.{alpha_bound}
use Rattle.curve.proofs.RiseFacts.{next_near}
use Rattle.curve.proofs.StairFacts.{stair_is}
use Rattle.curve.proofs.prefix.Prefix.stair_of.Goals as goal

pub overflow_add-result : goal.overflow_add-result
unfolding value_of alpha_of
overflow_add-result c =
    let whole : c.top_value.result ≡ last_value 0 c.self.inside.steps.items c.self.inside.horizon = cc in
    let rest : c.landing-landing.result.value ≡ last_value 0 c.self.inside.steps.items (c.args.d % c.self.inside.horizon) =
    c.landing-landing.ensures.value ∙ ap (λ xs. last_value 0 xs (c.args.d % c.self.inside.horizon)) c.deref.ensures.value in
    let bound : c.args.d / c.self.inside.horizon * c.top_value.result + c.landing-landing.result.value ≤
    (c.args.d + 1) * greatest_value = rw (whole, rest) (alpha_bound _ c.self.invariant c.args.d) in
    omega (arith, bound)

pub overflow_add-result-3 : goal.overflow_add-result-3
overflow_add-result-3 c =
    let landing = subst (λ xs. IsLanding c.self.inside.horizon xs (c.args.d % c.self.inside.horizon) c.landing-landing.result)
    c.deref.ensures.value c.landing-landing.ensures in
    omega (arith, landing.until, next_near _ c.self.invariant (c.args.d % c.self.inside.horizon))

pub returns : goal.returns
unfolding value_of
returns c =
    let landing = subst (λ xs. IsLanding c.self.inside.horizon xs (c.args.d % c.self.inside.horizon) c.landing-landing.result)
    c.deref.ensures.value c.landing-landing.ensures in
    let whole : c.top_value.result ≡ last_value 0 c.self.inside.steps.items c.self.inside.horizon = cc in
    rw (← c.self.view_is) (stair_is _ c.self.invariant c.args.d c.landing-landing.result _ landing (rw whole refl) refl refl)
