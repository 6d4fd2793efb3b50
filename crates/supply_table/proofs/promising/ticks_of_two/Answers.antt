use Rattle.std.proofs.Common.{◌≡◌, ℕ, List, ◌++◌, sym, ◌∙◌, ap}
use Rattle.std.specs.List.{flat_map}
use Rattle.supply_table.specs.declared.table.Slot.{Slot}
use Rattle.supply_table.specs.Ticks.{slot_ticks}
use Rattle.supply_table.proofs.TickFacts.{two_cycles}
use Rattle.supply_table.proofs.promising.ticks_of_two.Goals as goal

pub returns : goal.returns
returns c =
    let table = c.args.table.now in
    let first : c.push_cycle.new.ticks.items ≡ flat_map (slot_ticks 0) table.slots =
    c.in_ok-push_cycle.ensures
    ∙ ap (λ (xs : List ℕ). xs ++ flat_map (slot_ticks 0) c.slots.result.now) c.new-ticks.ensures.items
    ∙ ap (λ (slots : List Slot). flat_map (slot_ticks 0) slots) c.slots.ensures.slots in
    c.in_ok-push_cycle-2.ensures
    ∙ ap (λ (xs : List ℕ). xs ++ flat_map (slot_ticks c.cycle.result) c.slots-2.result.now) first
    ∙ ap (λ (slots : List Slot). flat_map (slot_ticks 0) table.slots ++ flat_map (slot_ticks c.cycle.result) slots) c.slots-2.ensures.slots
    ∙ ap (λ (w : ℕ). flat_map (slot_ticks 0) table.slots ++ flat_map (slot_ticks w) table.slots) c.cycle.ensures.cycle
    ∙ sym (two_cycles table c.cycle.ensures.valid)
