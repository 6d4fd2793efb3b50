-- The value of a curve, from its last step up to a length.
use Rattle.std.proofs.Common.{◌≡◌, ℕ, zero, suc, ◌+◌, ◌-◌, ◌*◌, ◌/◌, ◌%◌, ◌<◌, ◌≤◌, Bool, cond, List, [], ◌∷◌, length, ◌∙◌, ap, arith, leb, add-one}
use Rattle.std.proofs.lemmas.Bool.{le-leb}
use Rattle.std.proofs.Math.Nat.{add-mod_right, add-div_right, div_self, mod_self}
use Rattle.curve.specs.declared.prefix.Step.{Step}
use Rattle.curve.specs.CurveValue.{Curve}
use Rattle.curve.specs.Curves.{last_value, value_of, alpha_of}
use Rattle.curve.specs.Validity.{IsCurve}
use Rattle.curve.proofs.CurveFacts.{StartsAtOne, RiseFrom, first_at_one, rising_from, last_value_early}
use Rattle.curve.proofs.RiseFacts.{alpha_at}
use Rattle.windows.specs.Steps.{step_at, IsLastStep}

last_here : (s : Step) (steps : List Step) (before d : ℕ) → RiseFrom s.time s.value steps →
    (0 < length steps → d < (step_at steps 0).time) → s.time ≤ d → last_value before (s ∷ steps) d ≡ s.value
last_here s [] before d rise after begun = ap (λ (b : Bool). cond {A = ℕ} b s.value before) (le-leb s.time d begun)
last_here s (n ∷ steps) before d rise after begun =
    let far : d < n.time = after (omega arith) in
    ap (λ (b : Bool). last_value (cond b s.value before) (n ∷ steps) d) (le-leb s.time d begun)
    ∙ last_value_early (n ∷ steps) (n.time - 1) s.value s.value d (omega (arith, rise.0), rise.1, rise.2) (omega arith)

-- the last step that has begun gives the value
last_value_at : (steps : List Step) (time top before d i : ℕ) → RiseFrom time top steps → i < length steps →
    (step_at steps i).time ≤ d → (suc i < length steps → d < (step_at steps (suc i)).time) →
    last_value before steps d ≡ (step_at steps i).value
last_value_at [] time top before d i rise listed begun after = absurd (omega arith)
last_value_at (s ∷ steps) time top before d zero rise listed begun after = last_here s steps before d rise.2 (λ l. after (omega arith)) begun
last_value_at (s ∷ steps) time top before d (suc i) rise listed begun after =
    last_value_at steps s.time s.value (cond (leb s.time d) s.value before) d i rise.2 (omega arith) begun (λ l. after (omega arith))

-- up to the horizon
pub alpha_is : (c : Curve) → IsCurve c → (d i : ℕ) → d ≤ c.horizon → IsLastStep c.steps d i →
    alpha_of c d ≡ (step_at c.steps i).value
unfolding value_of
alpha_is c ok d i h at =
    let zero_horizons : 0 * c.horizon + d ≡ d = omega arith in
    omega (
      arith,
      ap (alpha_of c) zero_horizons,
      alpha_at c ok 0 d h,
      last_value_at c.steps 0 0 0 d i (rising_from c ok) at.listed at.begun (λ l. rw add-one at (at.last (omega arith))),
    )

-- one more horizon
pub alpha_more : (c : Curve) → IsCurve c → (d : ℕ) → alpha_of c (d + c.horizon) ≡ alpha_of c d + alpha_of c c.horizon
unfolding alpha_of value_of
alpha_more c ok d =
    let p : 0 < c.horizon = ok.horizon_low in
    let q : (d + c.horizon) / c.horizon ≡ d / c.horizon + 1 = add-div_right d p in
    let r : (d + c.horizon) % c.horizon ≡ d % c.horizon = add-mod_right d c.horizon in
    let one : c.horizon / c.horizon ≡ 1 = div_self p in
    let none : c.horizon % c.horizon ≡ 0 = mod_self c.horizon in
    let early : last_value 0 c.steps 0 ≡ 0 = last_value_early c.steps 0 0 0 0 (rising_from c ok) (omega arith) in
    omega (
      arith,
      ap (λ (w : ℕ). w * last_value 0 c.steps c.horizon) q,
      ap (last_value 0 c.steps) r,
      ap (λ (w : ℕ). w * last_value 0 c.steps c.horizon) one,
      ap (last_value 0 c.steps) none,
      early,
    )

-- the first step of a curve
pub record IsFirstStep (steps : List Step) : Type 0 where
  pub listed : 0 < length steps
  pub time : (step_at steps 0).time ≡ 1
  pub last : IsLastStep steps 1 0

first_of_steps : (steps : List Step) → StartsAtOne steps → RiseFrom 0 0 steps → IsFirstStep steps
first_of_steps [] first rise = absurd first
first_of_steps (s ∷ []) first rise =
    record { listed = omega arith; time = first; last = record { listed = omega arith; begun = omega (arith, first); last = λ l. absurd (omega arith) } }
first_of_steps (s ∷ (n ∷ steps)) first rise =
    record {
      listed = omega arith;
      time = first;
      last =
          record { listed = omega arith; begun = omega (arith, first); last = λ l. rw add-one (omega (arith, first, rise.2.0)) };
    }

pub first_step : (c : Curve) → IsCurve c → IsFirstStep c.steps
first_step c ok = first_of_steps c.steps (first_at_one c ok) (rising_from c ok)
