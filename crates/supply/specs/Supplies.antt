use Rattle.std.specs.Prelude.{ℕ}
use Rattle.task_sheet.specs.declared.tasks.SupplySpec.TheVariants.{Promised}
use Rattle.task_sheet.specs.Sheets.{IsPromise}
use Rattle.supply.specs.PromiseParts.{PromiseParts}
use Rattle.supply.specs.Promises.{promised}

-- a promise that a sheet may make
abbrev pub IsPromised : PromiseParts → Type 0
IsPromised p = IsPromise (Promised p.horizon p.times)

-- the ticks that it supplies in every window of d ticks
abbrev pub promised_by : PromiseParts → ℕ → ℕ
promised_by p = promised p.horizon p.times
