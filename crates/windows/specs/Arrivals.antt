-- The arrivals of one task.
use Rattle.std.specs.Prelude.{ℕ, ◌+◌, ◌-◌, ◌<◌, ◌≤◌, ◌&&◌, Bool, List, length, count_by, nat_le, nat_lt, slice_index}
use Rattle.std.specs.List.Sorted.{IsNonDecreasing}
use Rattle.lists.specs.Firsts.{all_below}
use Rattle.lists.specs.Searches.{greatest_to}
use Rattle.curve.specs.CurveValue.{Curve}
use Rattle.curve.specs.Curves.{alpha_of}

-- how many of the arrivals are in [s, u)
unfoldable pub arrived_in : List ℕ → ℕ → ℕ → ℕ
arrived_in arrivals s u = count_by (λ a. nat_le s a && nat_lt a u) arrivals

-- in every window at most as many jobs arrive as the curve says
abbrev pub AreWithin : Curve → List ℕ → Type 0
AreWithin curve arrivals = (s u : ℕ) → s ≤ u → arrived_in arrivals s u ≤ alpha_of curve (u - s)

-- the arrivals of a task before t, in their order and within the curve
pub record IsPast (curve : Curve) (arrivals : List ℕ) (t : ℕ) : Type 0 where
  pub ascending : IsNonDecreasing arrivals
  pub before : (i : ℕ) → i < length arrivals → slice_index arrivals i < t
  pub within : AreWithin curve arrivals

-- with g more arrivals at t, every window that ends with t is within the curve
abbrev pub admits_in : Curve → List ℕ → ℕ → ℕ → Bool
admits_in curve arrivals t g = all_below (λ s. nat_le (arrived_in arrivals s t + g) (alpha_of curve (t + 1 - s))) (t + 1)

-- how many jobs may arrive at t
unfoldable pub allowance_in : Curve → List ℕ → ℕ → ℕ
allowance_in curve arrivals t = greatest_to (admits_in curve arrivals t) (alpha_of curve 1)
