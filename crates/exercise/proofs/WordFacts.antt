-- The generator's words, and the numbers drawn by them.
use Rattle.std.proofs.Common.{◌≡◌, ℕ, zero, suc, ◌+◌, ◌*◌, ◌≤◌, refl, sym, ◌∙◌, ap, arith}
use Rattle.std.proofs.lemmas.Nat.{mod_below}
use Rattle.std.proofs.Math.Nat.{mul-le-mul_left}
use Rattle.simulated_run.specs.Words.{word, next, after}
use Rattle.exercise.specs.GeneratedSheet.{scale_of, cost_of, period_of}

-- one word more
pub after_more : (n state : ℕ) → after (suc n) state ≡ next (after n state)
after_more zero state = refl
after_more (suc n) state = after_more n (next state)

index_to : (m n seed : ℕ) → m ≡ n → after m seed ≡ after n seed
index_to m n seed e = ap (λ (k : ℕ). after k seed) e

pub after_one : (i seed state : ℕ) → state ≡ after (2 * i) seed → next state ≡ after (2 * i + 1) seed
after_one i seed state e = ap next e ∙ sym (after_more (2 * i) seed) ∙ index_to (suc (2 * i)) (2 * i + 1) seed (omega arith)

pub after_two : (i seed state : ℕ) → state ≡ after (2 * i) seed → next (next state) ≡ after (2 * (i + 1)) seed
after_two i seed state e = ap next (after_one i seed state e) ∙ sym (after_more (2 * i + 1) seed) ∙ index_to (suc (2 * i + 1)) (2 * (i + 1)) seed (omega arith)

pub scale_low : (seed i : ℕ) → 1 ≤ scale_of seed i
unfolding scale_of
scale_low seed i = omega arith

pub scale_high : (seed i : ℕ) → scale_of seed i ≤ 50
unfolding scale_of
scale_high seed i = omega (arith, mod_below (word (after (2 * i) seed)) 50 (omega arith))

pub cost_low : (seed i : ℕ) → 1 ≤ cost_of seed i
unfolding cost_of
cost_low seed i = omega arith

pub cost_high : (seed i : ℕ) → cost_of seed i ≤ scale_of seed i
unfolding cost_of
cost_high seed i = omega (arith, mod_below (word (after (2 * i + 1) seed)) (scale_of seed i) (scale_low seed i))

-- a period is between two ticks a task and a hundred
pub period_low : (seed n i : ℕ) → 2 * n ≤ period_of seed n i
unfolding period_of
period_low seed n i = omega (arith, mul-le-mul_left (2 * n) (scale_low seed i))

pub period_high : (seed n i : ℕ) → period_of seed n i ≤ 100 * n
unfolding period_of
period_high seed n i = omega (arith, mul-le-mul_left (2 * n) (scale_high seed i))
