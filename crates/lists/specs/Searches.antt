-- Searches among numbers.
use Rattle.std.specs.Prelude.{◌≡◌, ◌≢◌, ℕ, zero, suc, ◌<◌, ◌≤◌, ◌&&◌, Bool, true, false, cond, Option, Some, None}

-- n has the property, and no smaller number has it
pub record IsLeast (P : ℕ → Type 0) (n : ℕ) : Type 0 where
  pub holds : P n
  pub least : (k : ℕ) → P k → n ≤ k

-- the least number up to the limit with the property; None exactly where there is none
abbrev pub IsLeastTo : (ℕ → Type 0) → ℕ → Option ℕ → Type 0
IsLeastTo P limit None = (k : ℕ) → k ≤ limit → P k → ⊥
IsLeastTo P limit (Some n) = (n ≤ limit) × IsLeast P n

-- the least number below a count with the property; None exactly where there is none
abbrev pub IsFirstBelow : (ℕ → Type 0) → ℕ → Option ℕ → Type 0
IsFirstBelow P count None = (k : ℕ) → k < count → P k → ⊥
IsFirstBelow P count (Some n) = (n < count) × P n × ((k : ℕ) → k < n → P k → ⊥)

-- of the numbers below a count only this one, if any, fails the test
abbrev pub OnlyFails : (ℕ → Bool) → ℕ → Option ℕ → Type 0
OnlyFails test count None = (k : ℕ) → k < count → test k ≡ true
OnlyFails test count (Some n) = (n < count) × (test n ≡ false) × ((k : ℕ) → k < count → k ≢ n → test k ≡ true)

-- the greatest number up to n that passes, else 0
abbrev pub greatest_to : (ℕ → Bool) → ℕ → ℕ
greatest_to test zero = 0
greatest_to test (suc n) = cond (test (suc n)) (suc n) (greatest_to test n)

-- n, where it passes and comes before the best so far
abbrev pub better : (ℕ → Bool) → (ℕ → ℕ → Bool) → ℕ → Option ℕ → Option ℕ
better test before n None = cond (test n) (Some n) None
better test before n (Some k) = cond (test n && before n k) (Some n) (Some k)

-- of the numbers below n that pass, the one that comes before the others
abbrev pub best_below : (ℕ → Bool) → (ℕ → ℕ → Bool) → ℕ → Option ℕ
best_below test before zero = None
best_below test before (suc n) = better test before n (best_below test before n)
