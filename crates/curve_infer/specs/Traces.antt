use Rattle.std.specs.Prelude.{◌≡◌, ℕ, ◌≤◌, ◌&&◌, Bool, true, List, [], ◌∷◌, length}
use Rattle.lists.specs.Ranges.{is_between}
use Rattle.curve_infer.specs.Limits.{most_arrivals, latest}

-- each time is no earlier than the one before it, and none is too late
abbrev pub are_times : ℕ → List ℕ → Bool
are_times before [] = true
are_times before (t ∷ times) = is_between before latest t && are_times t times

abbrev pub is_trace : List ℕ → Bool
is_trace times = is_between 1 most_arrivals (length times) && are_times 0 times

-- the times of a trace
pub record IsTrace (times : List ℕ) : Type 0 where
  pub some : 1 ≤ length times
  pub few : length times ≤ most_arrivals
  pub fit : are_times 0 times ≡ true
