use Rattle.std.proofs.Common.{◌≡◌, drop}
use Rattle.std.specs.List.{list_all}
use Rattle.supply_table.specs.Validity.{is_slot}
use Rattle.supply_table.proofs.checking.are_each_slots.Given as goal

abbrev pub invariant-loop-slot : goal.invariant-loop-slot
invariant-loop-slot l = list_all is_slot (drop l.slot-index l.slots) ≡ list_all is_slot l.slots
