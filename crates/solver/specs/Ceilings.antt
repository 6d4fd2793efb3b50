-- Lines that a supply stays below.
use Rattle.std.specs.Prelude.{ℕ, ◌+◌, ◌*◌, ◌≤◌}
use Rattle.lists.specs.Limits.{greatest_number}
use Rattle.solver.specs.declared.ceilings.Ceiling.{Ceiling}

-- in each window so many ticks at most are supplied
abbrev pub IsOver : (ℕ → ℕ) → Ceiling → Type 0
IsOver sbf c = (d : ℕ) → sbf d * c.horizon ≤ c.rate * d + c.spare * c.horizon

-- numbers that ceilings keep to
pub record IsCeiling (c : Ceiling) : Type 0 where
  pub horizon_low : 1 ≤ c.horizon
  pub horizon_high : c.horizon ≤ greatest_number
  pub rate : c.rate ≤ greatest_number
  pub spare : c.spare ≤ greatest_number
