use Rattle.std.specs.Prelude.{ℕ, ◌+◌, ◌*◌, ◌/◌, ◌%◌, List, [], ◌∷◌, cond, nat_le}
use Rattle.task_sheet.specs.declared.tasks.SupplySpec.{SupplySpec}
use Rattle.task_sheet.specs.declared.tasks.SupplySpec.TheVariants.{Unit as Whole, Promised}

-- how many of the times are at most r
abbrev pub count_of : List ℕ → ℕ → ℕ
count_of [] r = 0
count_of (t ∷ times) r = cond (nat_le t r) 1 0 + count_of times r

-- the ticks that a promise supplies in every window of d ticks
unfoldable pub promised : ℕ → List ℕ → ℕ → ℕ
promised horizon times d = (d / horizon) * count_of times horizon + count_of times (d % horizon)

-- the supply bound function of a sheet's supply
abbrev pub sbf_of : SupplySpec → ℕ → ℕ
sbf_of Whole = λ d. d
sbf_of (Promised horizon times) = promised horizon times
