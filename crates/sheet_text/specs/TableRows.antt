use Rattle.std.specs.Prelude.{ℕ, ℤ, pos, negsuc, codes, Option, Some, None, option_map, Result, Ok, Err}
use Rattle.toml.specs.Data.{Data, array, no_items, item, as_integer}
use Rattle.task_sheet.specs.declared.tasks.SupplySpec.{SupplySpec}
use Rattle.task_sheet.specs.declared.tasks.SupplySpec.TheVariants.{Promised}
use Rattle.task_sheet.specs.declared.refusal.Place.TheVariants as places
use Rattle.task_sheet.specs.declared.refusal.Field.TheVariants as fields
use Rattle.task_sheet.specs.declared.refusal.SheetRefusal.{SheetRefusal}
use Rattle.task_sheet.specs.declared.refusal.SheetRefusal.TheVariants as sheet
use Rattle.task_sheet.specs.Refusing.{◌>>=◌, present}
use Rattle.supply_table.specs.declared.table.Slot.{Slot}
use Rattle.supply_table.specs.declared.table.TableRefusal.{TableRefusal}
use Rattle.supply_table.specs.declared.table.TableRefusal.TheVariants.{Cycle, Slots, Order}
use Rattle.supply_table.specs.Limits.{most_cycle}
use Rattle.supply_table.specs.TableParts.{TableParts}
use Rattle.supply_table.specs.Validity.{table_check_of}
use Rattle.supply_table.specs.Floors.{times_of}
use Rattle.sheet_text.specs.Documents.{needed_rule, whole_rule, number_of, all_in}

-- a negative integer as the longest cycle, at which no slot starts
abbrev pub start_from : ℤ → ℕ
start_from (pos n) = n
start_from (negsuc n) = most_cycle

-- an integer as the start of a slot; below 0 it is given as a start that is out of range as well
abbrev pub start_of : Data → Option ℕ
start_of d = option_map start_from (as_integer d)

-- the slot of a start and a length
abbrev pub slot_from : Option ℕ → Option ℕ → Option Slot
slot_from (Some start) (Some length) = Some (record { start = start; length = length })
slot_from _ _ = None

-- a slot is an array of exactly two integers
abbrev pub slot_of : Data → Option Slot
slot_of (array (item start (item length no_items))) = slot_from (start_of start) (number_of length)
slot_of _ = None

-- the sheet's refusal of a table that breaks a rule
abbrev pub table_refusal : TableRefusal → SheetRefusal
table_refusal Cycle = sheet.Range places.Supply fields.Cycle
table_refusal Slots = sheet.Range places.Supply fields.Slots
table_refusal Order = sheet.Order places.Supply fields.Slots

-- the table, or the sheet's refusal of it
abbrev pub table_or_refusal : Result TableParts TableRefusal → Result TableParts SheetRefusal
table_or_refusal (Ok t) = Ok t
table_or_refusal (Err e) = Err (table_refusal e)

-- the slots are an array of slots that make a table of this cycle
abbrev pub slots_rule : ℕ → Data → Result TableParts SheetRefusal
slots_rule cycle d =
    present (all_in slot_of d) (sheet.Kind places.Supply fields.Slots)
    >>= (λ slots. table_or_refusal (table_check_of cycle slots))

-- the cycle, which has to be there
abbrev pub cycle_rule : Data → Result ℕ SheetRefusal
cycle_rule d =
    needed_rule (codes "cycle") places.Supply fields.Cycle d
    >>= whole_rule places.Supply fields.Cycle 1 most_cycle

-- a cyclic time table: a cycle and slots
unfoldable pub cyclic_rule : Data → Result TableParts SheetRefusal
cyclic_rule d = do
  cycle ← cycle_rule d
  slots ← needed_rule (codes "slots") places.Supply fields.Slots d
  slots_rule cycle slots

-- the promise that a table implies
abbrev pub implied_by : TableParts → SupplySpec
implied_by t = Promised t.cycle (times_of t)
