-- The steps of a curve, and the last one up to a length.
use Rattle.std.specs.Prelude.{ℕ, ◌+◌, ◌<◌, ◌≤◌, List, length, slice_index_or}
use Rattle.curve.specs.declared.prefix.Step.{Step}

-- what stands past the last step
abbrev pub no_step : Step
no_step = record { time = 0; value = 0 }

abbrev pub step_at : List Step → ℕ → Step
step_at steps i = slice_index_or steps i no_step

-- the last step whose time is at most d
pub record IsLastStep (steps : List Step) (d i : ℕ) : Type 0 where
  pub listed : i < length steps
  pub begun : (step_at steps i).time ≤ d
  pub last : i + 1 < length steps → d < (step_at steps (i + 1)).time
