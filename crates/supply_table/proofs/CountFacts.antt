use Rattle.std.proofs.Common.{◌≡◌, ℕ, zero, suc, ◌+◌, ◌-◌, ◌*◌, ◌<◌, ◌≤◌, Bool, true, false, cond, refl, sym, ◌∙◌, ap, subst, arith, add-zero}
use Rattle.std.proofs.Common.{add-suc, add-one, add_assoc}
use Rattle.std.proofs.lemmas.Bool.{cases_lt, cases_Bool}
use Rattle.lists.proofs.SumFacts.{sum_same}
use Rattle.supply_table.specs.Floors.{count_in}

pub count_none : (test : ℕ → Bool) (p : ℕ) → count_in test p 0 ≡ 0
unfolding count_in
count_none test p = refl

pub count_more : (test : ℕ → Bool) (p d : ℕ) → count_in test p (suc d) ≡ count_in test p d + cond (test (p + d)) 1 0
unfolding count_in
count_more test p d = refl

bit_high : (b : Bool) → cond b 1 0 ≤ 1
bit_high b = grind arith

pub count_step : (test : ℕ → Bool) (p d : ℕ) → (count_in test p d ≤ count_in test p (suc d)) × (count_in test p (suc d) ≤ count_in test p d + 1)
count_step test p d = (omega (arith, count_more test p d), omega (arith, count_more test p d, bit_high (test (p + d))))

-- a window is its front and its rest
pub count_split : (test : ℕ → Bool) (p d e : ℕ) → count_in test p (d + e) ≡ count_in test p d + count_in test (p + d) e
count_split test p d zero = rw add-zero (omega (arith, count_none test (p + d)))
count_split test p d (suc e) =
    let at : p + (d + e) ≡ p + d + e = omega arith in
    rw add-suc (omega (arith, count_split test p d e, count_more test p (d + e), count_more test (p + d) e, ap (λ (w : ℕ). cond {A = ℕ} (test w) 1 0) at))

pub count_mono : (test : ℕ → Bool) (p d e : ℕ) → d ≤ e → count_in test p d ≤ count_in test p e
count_mono test p d e h =
    let whole : d + (e - d) ≡ e = omega arith in
    omega (arith, ap (count_in test p) whole, count_split test p d (e - d))

-- windows whose numbers pass alike
pub count_same : (test : ℕ → Bool) (p r d : ℕ) → ((k : ℕ) → k < d → test (p + k) ≡ test (r + k)) → count_in test p d ≡ count_in test r d
unfolding count_in
count_same test p r d same = sum_same (λ k. cond (test (p + k)) 1 0) (λ k. cond (test (r + k)) 1 0) d (λ k h. ap (λ (b : Bool). cond {A = ℕ} b 1 0) (same k h))

-- a test that goes round
abbrev pub IsPeriodic : (ℕ → Bool) → ℕ → Type 0
IsPeriodic test c = (t : ℕ) → test (t + c) ≡ test t

module _ (test : ℕ → Bool) (c : ℕ) (periodic : IsPeriodic test c) where
  pub count_round : (p d : ℕ) → count_in test (p + c) d ≡ count_in test p d
  count_round p d = count_same test (p + c) p d (λ k h.
      let at : p + c + k ≡ p + k + c = omega arith in
      ap test at ∙ periodic (p + k))

  -- a whole cycle has as many from each number on
  pub count_cycle : (p : ℕ) → count_in test p c ≡ count_in test 0 c
  count_cycle p =
      let turned : p + c ≡ c + p = omega arith in
      let zero_p : 0 + p ≡ p = omega arith in
      let zero_c : 0 + c ≡ c = omega arith in
      omega (arith, count_split test 0 p c, count_split test 0 c p, count_round 0 p, ap (count_in test 0) turned, ap (λ (w : ℕ). count_in test w c) zero_p)

  pub count_cycles : (p q r : ℕ) → count_in test p (q * c + r) ≡ q * count_in test 0 c + count_in test p r
  count_cycles p zero r =
      let at : zero * c + r ≡ r = omega arith in
      omega (arith, ap (count_in test p) at)
  count_cycles p (suc q) r =
      let at : suc q * c + r ≡ c + (q * c + r) = omega arith in
      omega (arith, ap (count_in test p) at, count_split test p c (q * c + r), count_cycle p, count_round p (q * c + r), count_cycles p q r)
