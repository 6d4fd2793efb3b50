use Rattle.std.proofs.Common.{◌≡◌, ◌++◌, take, drop, true}
use Rattle.std.specs.List.{flat_map, list_all}
use Rattle.supply_table.specs.Ticks.{slot_ticks}
use Rattle.supply_table.specs.Validity.{is_slot}
use Rattle.supply_table.proofs.promising.push_cycle.Given as goal

abbrev pub invariant-loop-slot : goal.invariant-loop-slot
invariant-loop-slot l = record {
  fit : list_all is_slot (drop l.slot-index l.slots) ≡ true;
  pushed : l.ticks.items ≡ l.fn.ticks.items ++ flat_map (slot_ticks l.begin) (take l.slot-index l.slots);
}
