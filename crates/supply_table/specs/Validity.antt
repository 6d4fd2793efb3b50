use Rattle.std.specs.Prelude.{◌≡◌, ℕ, ◌+◌, ◌&&◌, Bool, true, false, List, [], ◌∷◌, length, nat_le, nat_lt, if◌then◌else◌, Result, Ok, Err}
use Rattle.std.specs.List.{list_all}
use Rattle.lists.specs.Ranges.{is_between}
use Rattle.supply_table.specs.declared.table.Slot.{Slot}
use Rattle.supply_table.specs.declared.table.TableRefusal.{TableRefusal}
use Rattle.supply_table.specs.declared.table.TableRefusal.TheVariants.{Cycle, Slots, Order}
use Rattle.supply_table.specs.Limits.{most_cycle, most_slots, most_supplied}
use Rattle.supply_table.specs.TableParts.{TableParts}

abbrev pub is_cycle : ℕ → Bool
is_cycle cycle = is_between 1 most_cycle cycle

-- it starts below the longest cycle, and has at least one tick
abbrev pub is_slot : Slot → Bool
is_slot s = nat_lt s.start most_cycle && is_between 1 most_supplied s.length

-- the ticks of all slots together
abbrev pub supplied_sum : List Slot → ℕ
supplied_sum [] = 0
supplied_sum (s ∷ slots) = s.length + supplied_sum slots

-- how many slots there are, each of them, and their ticks together
abbrev pub are_slots : List Slot → Bool
are_slots slots = is_between 1 most_slots (length slots) && (list_all is_slot slots && nat_le (supplied_sum slots) most_supplied)

-- each slot starts at the end of the one before or later, and the last ends by the end of the cycle
abbrev pub are_in_order : ℕ → List Slot → ℕ → Bool
are_in_order end [] cycle = nat_le end cycle
are_in_order end (s ∷ slots) cycle = nat_le end s.start && are_in_order (s.start + s.length) slots cycle

-- the table of these parts, or the first rule that they break
abbrev pub table_check_of : ℕ → List Slot → Result TableParts TableRefusal
table_check_of cycle slots =
    if is_cycle cycle then
    (if are_slots slots then
    (if are_in_order 0 slots cycle then Ok (record { cycle = cycle; slots = slots })
    else Err Order)
    else Err Slots)
    else Err Cycle

-- which rule is the first that fails
abbrev pub FailsCycle : ℕ → Type 0
FailsCycle cycle = is_cycle cycle ≡ false

abbrev pub FailsSlots : ℕ → List Slot → Type 0
FailsSlots cycle slots = (is_cycle cycle ≡ true) × (are_slots slots ≡ false)

abbrev pub FailsOrder : ℕ → List Slot → Type 0
FailsOrder cycle slots = (is_cycle cycle ≡ true) × (are_slots slots ≡ true) × (are_in_order 0 slots cycle ≡ false)

-- a valid table
pub record IsTable (t : TableParts) : Type 0 where
  pub cycle : is_cycle t.cycle ≡ true
  pub slots : are_slots t.slots ≡ true
  pub order : are_in_order 0 t.slots t.cycle ≡ true
