-- How many jobs of a task may arrive.
use Rattle.std.proofs.Common.{◌≡◌, ℕ, ◌+◌, ◌-◌, ◌<◌, ◌≤◌, true, false, ap, inl, inr, arith}
use Rattle.std.specs.Prelude.{nat_le}
use Rattle.std.proofs.lemmas.Bool.{cases_lt, leb-false, leb-true, le-leb, lt-leb}
use Rattle.lists.proofs.SearchFacts.{greatest_is, greatest_above, greatest_within}
use Rattle.curve.specs.CurveValue.{Curve}
use Rattle.curve.specs.Curves.{alpha_of}
use Rattle.lists.proofs.FirstFacts.{all_parts, all_from, all_broken, some_broken}
use Rattle.run_model.specs.declared.run.Run.{Run}
use Rattle.schedule_laws.specs.Compliance.{arrivals_of}
use Rattle.simulated_run.specs.SimulatedRun.{admits, allowance_of}

-- one more than n is too many in some window that ends with t
pub record IsTight (curve : Curve) (o t n : ℕ) (run : Run) : Type 0 where
  pub start : ℕ
  pub within : start ≤ t
  pub many : alpha_of curve (t + 1 - start) < arrivals_of run o start t + n + 1

-- n more are not too many in any window that ends with t
pub record FitsIn (curve : Curve) (o t n : ℕ) (run : Run) : Type 0 where
  pub few : (s : ℕ) → s ≤ t → arrivals_of run o s t + n ≤ alpha_of curve (t + 1 - s)

module _ (curve : Curve) (o t : ℕ) (run : Run) where
  pub fits_admitted : (n : ℕ) → FitsIn curve o t n run → admits curve o run t n ≡ true
  fits_admitted n fits = all_from (λ s. nat_le (arrivals_of run o s t + n) (alpha_of curve (t + 1 - s))) (t + 1) (λ s h. le-leb _ _ (fits.few s (omega arith)))

  pub admitted_fits : (n : ℕ) → admits curve o run t n ≡ true → FitsIn curve o t n run
  admitted_fits n h = record {
    few =
        λ s b. leb-true _ _ (all_parts (λ s. nat_le (arrivals_of run o s t + n) (alpha_of curve (t + 1 - s))) (t + 1) s h (omega arith));
  }

  -- more than a tight number are not admitted
  pub tight_refused : (n k : ℕ) → IsTight curve o t n run → n < k → admits curve o run t k ≡ false
  tight_refused n k tight h =
      all_broken (λ s. nat_le (arrivals_of run o s t + k) (alpha_of curve (t + 1 - s))) (t + 1) tight.start
      (omega (arith, tight.within))
      (lt-leb (arrivals_of run o tight.start t + k) (alpha_of curve (t + 1 - tight.start)) (omega (arith, tight.many)))

  pub allowance_within : allowance_of curve o run t ≤ alpha_of curve 1
  unfolding allowance_of
  allowance_within = greatest_within (admits curve o run t) (alpha_of curve 1)

  pub allowance_tight : IsTight curve o t (allowance_of curve o run t) run
  unfolding allowance_of
  allowance_tight =
      let g : ℕ = allowance_of curve o run t in
      elim (cases_lt g (alpha_of curve 1)) [
        | inr most ↦
            let e : t + 1 - t ≡ 1 = omega arith in
            record { start = t; within = omega arith; many = omega (arith, most, ap (alpha_of curve) e) }
        | inl less ↦
            let fails : admits curve o run t (g + 1) ≡ false = greatest_above (admits curve o run t) (alpha_of curve 1) (g + 1)
            (omega arith) (omega (arith, less)) in
            let s = some_broken (λ s. nat_le (arrivals_of run o s t + (g + 1)) (alpha_of curve (t + 1 - s))) (t + 1) fails in
            record { start = s.0; within = omega (arith, s.1); many = omega (arith, leb-false _ _ s.2) }
      ]

  -- what fits and is tight is the allowance
  pub allowance_is : (n : ℕ) → FitsIn curve o t n run → IsTight curve o t n run → allowance_of curve o run t ≡ n
  unfolding allowance_of
  allowance_is n fits tight =
      let e : t + 1 - t ≡ 1 = omega arith in
      greatest_is (admits curve o run t) n (alpha_of curve 1) (omega (arith, fits.few t (omega arith), ap (alpha_of curve) e))
      (inr (fits_admitted n fits)) (λ k a h. tight_refused n k tight a)
