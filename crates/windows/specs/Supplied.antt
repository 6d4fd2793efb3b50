-- The supplied ticks of a run, counted from its begin.
use Rattle.std.specs.Prelude.{◌≡◌, ℕ, ◌+◌, ◌-◌, ◌≤◌, List, length, slice_index}
use Rattle.run_model.specs.declared.run.Run.{Run}
use Rattle.run_model.specs.Runs.{is_on, ticks_in}

-- the counts of supplied ticks before each of the ticks 0, .., t of a run
pub record AreCounts (run : Run) (counts : List ℕ) (t : ℕ) : Type 0 where
  pub counted : length counts ≡ t + 1
  pub each : (s : ℕ) → s ≤ t → slice_index counts s ≡ ticks_in is_on run 0 s

-- such counts, where every window [s, u) has the promised ticks
pub record ArePromised (sbf : ℕ → ℕ) (counts : List ℕ) (t : ℕ) : Type 0 where
  pub counted : length counts ≡ t + 1
  pub kept : (s u : ℕ) → s ≤ u → u ≤ t → sbf (u - s) + slice_index counts s ≤ slice_index counts u

-- with tick t off, every window that ends with it has the promised ticks
abbrev pub MayBeOff : (ℕ → ℕ) → List ℕ → ℕ → Type 0
MayBeOff sbf counts t = (s : ℕ) → s ≤ t → sbf (t + 1 - s) + slice_index counts s ≤ slice_index counts t
