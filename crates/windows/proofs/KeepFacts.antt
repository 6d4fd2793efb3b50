-- Arrivals that are looked at together keep a distance.
use Rattle.std.proofs.Common.{◌≡◌, ℕ, ◌+◌, ◌-◌, ◌<◌, ◌≤◌, List, length, get_or, subst, inl, inr, arith}
use Rattle.std.specs.List.Sorted.{IsNonDecreasing}
use Rattle.std.proofs.lemmas.Bool.{cases_lt}
use Rattle.windows.specs.declared.distances.Distance.{Distance}
use Rattle.windows.specs.Distances.{distance_at, DoKeep}

-- the least of them against the greatest of those before
pub kept_together : (xs : List ℕ) (d : Distance) (first last : ℕ) → IsNonDecreasing xs → d.apart ≤ first → last < length xs →
    get_or xs (last - d.apart) 0 ≤ get_or xs first 0 + 1 → d.span ≤ get_or xs first 0 + 1 - get_or xs (last - d.apart) 0 →
    DoKeep xs d first (last + 1)
kept_together xs d first last up apart listed below far j from until =
    omega (arith, far, below, up first j 0 from (omega arith), up (j - d.apart) (last - d.apart) 0 (omega arith) (omega arith))

-- more of them behind those
pub kept_more : (xs : List ℕ) (d : Distance) (first n until : ℕ) → DoKeep xs d first n → DoKeep xs d n until → DoKeep xs d first until
kept_more xs d first n until before here j from below = elim (cases_lt j n) [ inl l ↦ before j from l | inr l ↦ here j l below ]

-- one distance more
pub all_more : (xs : List ℕ) (needed : List Distance) (n : ℕ) → ((i : ℕ) → i < n → DoKeep xs (distance_at needed i) (distance_at needed i).apart (length xs)) →
    DoKeep xs (distance_at needed n) (distance_at needed n).apart (length xs) →
    (i : ℕ) → i < n + 1 → DoKeep xs (distance_at needed i) (distance_at needed i).apart (length xs)
all_more xs needed n before here i b = elim (cases_lt i n) [
  | inl l ↦ before i l
  | inr l ↦ let e : n ≡ i = omega arith in subst (λ w. DoKeep xs (distance_at needed w) (distance_at needed w).apart (length xs)) e here
]
