use Rattle.std.proofs.Common.{◌≡◌, ℕ, zero, suc, ◌+◌, ◌-◌, ◌*◌, ◌/◌, ◌%◌, ◌<◌, ◌≤◌, List, [], ◌∷◌, ◌++◌, length, sym, ◌∙◌, ap, arith, inl, inr}
use Rattle.std.proofs.lemmas.Bool.{cases_lt}
use Rattle.std.proofs.lemmas.Nat.{div-add-mod', mod_below}
use Rattle.std.proofs.Math.Nat.{mul-le-mul_left}
use Rattle.curve.specs.CurveValue.{Curve}
use Rattle.curve.specs.Curves.{value_of, alpha_of}
use Rattle.curve.specs.Validity.{IsCurve}
use Rattle.curve.proofs.CurveFacts.{StartsAtOne}
use Rattle.curve.proofs.RiseFacts.{alpha_at}
use Rattle.schedule_laws.specs.Compliance.{arrivals_of}
use Rattle.curve_infer.specs.Traces.{IsTrace}
use Rattle.curve_infer.specs.Curves.{times_in, Respects, most_of, steps_to, inferred_curve, IsNextRise, IsLeastCurve, KeepsCurves}
use Rattle.curve_infer.proofs.CountFacts.{arrive_alike}
use Rattle.curve_infer.proofs.MostFacts.{most_at, most_low, most_zero, most_high, most_mono, most_cycles, most_one}
use Rattle.curve_infer.proofs.StepFacts.{IsRising, starts_test, rise_test, value_steps, steps_are, steps_start, steps_once}

pub most_rises : (times : List ℕ) → IsTrace times → IsRising (most_of times)
most_rises times ok = record { begins = most_zero times ok; mono = most_mono times ok }

starts_at : (f : ℕ → ℕ) → IsRising f → 1 ≤ f 1 → (h : ℕ) → 1 ≤ h → StartsAtOne (steps_to f h)
starts_at f rises some zero low = absurd (omega arith)
starts_at f rises some (suc n) low = steps_start f rises some n

module _ (times : List ℕ) (ok : IsTrace times) (h : ℕ) (low : 1 ≤ h) (high : h ≤ 1000000000) where
  pub inferred_valid : IsCurve (inferred_curve times h)
  inferred_valid =
      let few = ok.few in
      let top = most_high times ok h in
      let rises = most_rises times ok in
      let steps = steps_are (most_of times) rises h high (omega (arith, few, top)) in
      record {
        horizon_low = low;
        horizon_high = high;
        few = omega (arith, few, top, steps.few);
        fit = steps.fit;
        first = starts_test _ (starts_at (most_of times) rises (most_one times ok 1 (omega arith)) h low);
        rising = rise_test 0 0 _ steps.rising;
        within = steps.last;
      }

  -- up to the horizon the curve is the most, and past it so many whole horizons and a rest
  alpha_parts : (q r : ℕ) → r ≤ h → alpha_of (inferred_curve times h) (q * h + r) ≡ q * most_of times h + most_of times r
  unfolding value_of
  alpha_parts q r within =
      let rises = most_rises times ok in
      omega (
        arith,
        alpha_at (inferred_curve times h) inferred_valid q r within,
        ap (λ (w : ℕ). q * w) (value_steps (most_of times) rises h h (omega arith)),
        value_steps (most_of times) rises h r within,
      )

  alpha_most : (d : ℕ) → alpha_of (inferred_curve times h) d ≡ d / h * most_of times h + most_of times (d % h)
  alpha_most d =
      let rest = mod_below d h (omega (arith, low)) in
      ap (alpha_of (inferred_curve times h)) (sym (div-add-mod' d h)) ∙ alpha_parts (d / h) (d % h) (omega (arith, rest))

  -- no window of d ticks has more times than the curve says
  most_within : (d : ℕ) → most_of times d ≤ alpha_of (inferred_curve times h) d
  most_within d = omega (arith, alpha_most d, most_cycles times ok h (d / h) (d % h), ap (most_of times) (div-add-mod' d h))

  pub respected : Respects times (inferred_curve times h)
  respected t u order =
      let whole : t + (u - t) ≡ u = omega (arith, order) in
      omega (arith, ap (times_in times t) whole, most_low times ok t (u - t), most_within (u - t))

  pub kept : KeepsCurves times (inferred_curve times h)
  kept run o same t u order =
      let whole : t + (u - t) ≡ u = omega (arith, order) in
      omega (arith, ap (arrivals_of run o t) whole, ap (times_in times t) whole, arrive_alike run o times same t (u - t), respected t u order)

  -- a curve that is respected has at least the most in every window
  most_respected : (c : Curve) → Respects times c → (d : ℕ) → most_of times d ≤ alpha_of c d
  most_respected c respects d =
      let at = most_at times ok d in
      let length_is : at.place + d - at.place ≡ d = omega arith in
      omega (arith, at.is, respects at.place (at.place + d) (omega arith), ap (alpha_of c) length_is)

  pub least : IsLeastCurve times (inferred_curve times h)
  least c valid same respects d =
      let q = d / h in
      let r = d % h in
      let rest = mod_below d h (omega (arith, low)) in
      let whole = alpha_at c valid 0 h (omega (arith, same)) in
      let part = alpha_at c valid 0 r (omega (arith, same, rest)) in
      let all = alpha_at c valid q r (omega (arith, same, rest)) in
      let at_h : 0 * c.horizon + h ≡ h = omega arith in
      let at_r : 0 * c.horizon + r ≡ r = omega arith in
      let at_d : q * c.horizon + r ≡ d = omega (arith, ap (λ (w : ℕ). q * w) same, div-add-mod' d h) in
      let top : most_of times h ≤ value_of c c.horizon = omega (arith, whole, ap (alpha_of c) at_h, most_respected c respects h, ap (value_of c) same) in
      omega (
        arith,
        alpha_most d,
        all,
        ap (alpha_of c) at_d,
        mul-le-mul_left q top,
        part,
        ap (alpha_of c) at_r,
        most_respected c respects r,
      )

  -- the first window with one time
  pub first_rise : IsNextRise times 1 h 1
  first_rise = record {
    within = omega (arith, low);
    soon = λ d b some. elim (cases_lt 0 d) [
      | inl c ↦ omega (arith, c)
      | inr c ↦ let e : d ≡ 0 = omega (arith, c) in absurd (omega (arith, some, ap (most_of times) e, most_zero times ok))
    ];
    there = λ d b some. most_one times ok d some;
  }

  -- from the first window with n + 1 times to the first with n + 2
  pub rises_order : (n time next : ℕ) → IsNextRise times n h time → IsNextRise times (n + 1) h next → time ≤ next
  rises_order n time next here there = elim (cases_lt next time) [
    | inr c ↦ c
    | inl c ↦
        let b : next ≤ h = omega (arith, c, here.within) in
        absurd (omega (arith, c, here.soon next b (omega (arith, there.there next b (omega arith)))))
  ]

  pub steps_stay : (n time next : ℕ) → IsNextRise times n h time → IsNextRise times (n + 1) h next → (time < next → ⊥) →
      steps_to (most_of times) (next - 1) ≡ steps_to (most_of times) (time - 1)
  steps_stay n time next here there none =
      let order = rises_order n time next here there in
      let same : next - 1 ≡ time - 1 = elim (cases_lt time next) [
        | inl c ↦ absurd (none c)
        | inr c ↦ omega (arith, order, c)
      ] in
      ap (steps_to (most_of times)) same

  pub steps_go : (n time next : ℕ) → 1 ≤ time → IsNextRise times n h time → IsNextRise times (n + 1) h next → time < next →
      steps_to (most_of times) (next - 1) ≡ steps_to (most_of times) (time - 1) ++ (record { time = time; value = n } ∷ [])
  steps_go n time next some here there c =
      let f = most_of times in
      let in_here : time ≤ h = omega (arith, c, there.within) in
      let reached : n ≤ f time = here.there time in_here (omega arith) in
      let before : f (time - 1) < n = elim (cases_lt (f (time - 1)) n) [
        | inl b ↦ b
        | inr b ↦ absurd (omega (arith, some, here.soon (time - 1) (omega (arith, in_here)) b))
      ] in
      let after : f (next - 1) ≤ n = elim (cases_lt n (f (next - 1))) [
        | inr b ↦ b
        | inl b ↦ absurd (omega (arith, c, there.soon (next - 1) (omega (arith, there.within, c)) (omega (arith, b))))
      ] in
      let at : time - 1 + 1 ≡ time = omega (arith, some) in
      let end : time - 1 + 1 + (next - 1 - time) ≡ next - 1 = omega (arith, some, c) in
      ap (steps_to f) (sym end)
      ∙ steps_once f (most_rises times ok) (time - 1) (next - 1 - time) n before (omega (arith, ap f at, reached)) (omega (arith, ap f end, after))
      ∙ ap (λ (w : ℕ). steps_to f (time - 1) ++ (record { time = w; value = n } ∷ [])) at

  -- past the number of times nothing rises
  pub last_rise : (n v : ℕ) → length times < n → IsNextRise times n h v → v ≡ h + 1
  last_rise n v past is = elim (cases_lt h v) [
    | inl c ↦ omega (arith, c, is.within)
    | inr c ↦ absurd (omega (arith, is.there v c (omega arith), most_high times ok v, past))
  ]
