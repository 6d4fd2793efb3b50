use Rattle.std.specs.Prelude.{◌≡◌, ℕ, ◌<◌, ◌≤◌, List, length, slice_index_or}
use Rattle.curve.specs.declared.prefix.Step.{Step}
use Rattle.curve.specs.declared.prefix.Stair.{Stair}
use Rattle.curve.specs.CurveValue.{Curve}
use Rattle.curve.specs.Curves.{alpha_of, last_value}
use Rattle.curve.specs.Rises.{next_time_of}

-- the first n steps have come by time t, and no other
pub record IsSplit (steps : List Step) (t n : ℕ) : Type 0 where
  pub within : n ≤ length steps
  pub early : (k : ℕ) (d : Step) → k < n → (slice_index_or steps k d).time ≤ t
  pub late : (k : ℕ) (d : Step) → n ≤ k → k < length steps → t < (slice_index_or steps k d).time

-- the stair of the steps at r, within one horizon: their value there, since when it is that, and the next time
pub record IsLanding (horizon : ℕ) (steps : List Step) (r : ℕ) (s : Stair) : Type 0 where
  pub value : s.value ≡ last_value 0 steps r
  pub begun : s.from ≤ r
  pub since : last_value 0 steps s.from ≡ last_value 0 steps r
  pub until : s.until ≡ next_time_of horizon steps r

-- the stair of the curve at d: its value from one length up to another, at which it is higher
pub record IsStair (c : Curve) (s : Stair) (d : ℕ) : Type 0 where
  pub begun : s.from ≤ d
  pub open_yet : d < s.until
  pub flat : (y : ℕ) → s.from ≤ y → y < s.until → alpha_of c y ≡ s.value
  pub higher : s.value < alpha_of c s.until
