use Rattle.std.proofs.Common.{◌≡◌, drop, true}
use Rattle.std.specs.List.{list_all}
use Rattle.supply_table.specs.Validity.{is_slot, are_in_order}
use Rattle.supply_table.proofs.checking.are_in_order.Given as goal

abbrev pub invariant-loop-slot : goal.invariant-loop-slot
invariant-loop-slot l = record {
  fit : list_all is_slot (drop l.slot-index l.slots) ≡ true;
  rest : are_in_order l.end (drop l.slot-index l.slots) l.cycle ≡ are_in_order 0 l.slots l.cycle;
}
