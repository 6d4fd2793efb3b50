use Rattle.std.specs.Prelude.{ℕ, List}
use Rattle.supply_table.specs.declared.table.Slot.{Slot}

-- a cycle, and the slots of it that are supplied
pub record TableParts : Type 0 where
  pub cycle : ℕ
  pub slots : List Slot
