use Rattle.std.specs.Prelude.{◌≡◌, ℕ, ◌+◌, ◌-◌, ◌<◌, ◌≤◌, true, length}
use Rattle.supply.specs.Promises.{promised}
use Rattle.run_model.specs.declared.run.Run.{Run}
use Rattle.run_model.specs.Runs.{tick_at, is_on, ticks_in}
use Rattle.supply_table.specs.TableParts.{TableParts}
use Rattle.supply_table.specs.Validity.{IsTable}
use Rattle.supply_table.specs.Floors.{is_supplied, times_of}

-- the ticks follow the table from phase p on: tick 0 is tick p of the table, and what the table supplies is supplied
abbrev pub Follows : TableParts → ℕ → Run → Type 0
Follows table p run = (t : ℕ) → t < length run.ticks → is_supplied table (t + p) ≡ true → is_on (tick_at run t) ≡ true

-- then every window [t, u) has at least the ticks that the table's promise says
abbrev pub TableSupplies : Type 0
TableSupplies = (table : TableParts) (p : ℕ) (run : Run) → IsTable table → Follows table p run →
    (t u : ℕ) → t ≤ u → u ≤ length run.ticks → promised table.cycle (times_of table) (u - t) ≤ ticks_in is_on run t (u - t)
