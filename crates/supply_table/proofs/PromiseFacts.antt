use Rattle.std.proofs.Common.{◌≡◌, ℕ, zero, suc, ◌+◌, ◌-◌, ◌*◌, ◌/◌, ◌%◌, ◌<◌, ◌≤◌, true, List, [], ◌∷◌, length, refl, sym, ◌∙◌, ap, subst, arith}
use Rattle.std.specs.List.{list_all}
use Rattle.std.proofs.lemmas.Bool.{and_parts, and_from, leb-true, le-leb}
use Rattle.std.proofs.lemmas.Bool.Decides.{nat_tests}
use Rattle.std.proofs.lemmas.Nat.{div-add-mod', mod_below}
use Rattle.lists.specs.Ranges.{is_between}
use Rattle.task_sheet.specs.Rules.{are_in_range, are_times}
use Rattle.task_sheet.specs.Sheets.{IsPromise}
use Rattle.task_sheet.specs.declared.tasks.SupplySpec.TheVariants.{Promised}
use Rattle.supply.specs.Promises.{count_of, promised}
use Rattle.supply_table.specs.declared.table.Slot.{Slot}
use Rattle.supply_table.specs.TableParts.{TableParts}
use Rattle.supply_table.specs.Validity.{IsTable, is_slot, are_slots, supplied_sum}
use Rattle.supply_table.specs.Floors.{floor_of, times_of}
use Rattle.supply_table.proofs.FloorFacts.{cycle_low, cycle_high, floor_cycle, floor_cycles}
use Rattle.supply_table.proofs.RiseFacts.{count_all, count_rises, length_rises, rises_are}
use Rattle.supply_table.proofs.TickFacts.{supplied_is}
use Rattle.supply_table.proofs.WaitFacts.{floor_grows}

pub each_slot : (slots : List Slot) → are_slots slots ≡ true → list_all is_slot slots ≡ true
each_slot slots h = (and_parts _ _ (and_parts _ _ h).1).0

-- slots supply between 1 and 1,000 ticks
pub supplied_high : (slots : List Slot) → are_slots slots ≡ true → supplied_sum slots ≤ 1000
supplied_high slots h = leb-true (supplied_sum slots) 1000 (and_parts _ _ (and_parts _ _ h).1).1

slot_low : (s : Slot) → is_slot s ≡ true → 1 ≤ s.length
slot_low s h = grind (arith, nat_tests)

pub supplied_low : (slots : List Slot) → are_slots slots ≡ true → 1 ≤ supplied_sum slots
supplied_low [] h = absurd (cc)
supplied_low (s ∷ slots) h =
    let first = and_parts (is_slot s) (list_all is_slot slots) (each_slot (s ∷ slots) h) in
    omega (arith, slot_low s first.0)

module _ (table : TableParts) (ok : IsTable table) where
  -- the promise of a table is its floor at every length
  pub promised_is : (d : ℕ) → promised table.cycle (times_of table) d ≡ floor_of table d
  unfolding promised
  promised_is d =
      let low = cycle_low table ok in
      let grows = floor_grows table ok in
      let whole = count_all (floor_of table) grows table.cycle table.cycle (omega arith) in
      let rest = mod_below d table.cycle (omega (arith, low)) in
      omega (
        arith,
        ap (λ (w : ℕ). d / table.cycle * w) whole,
        count_rises (floor_of table) grows table.cycle (d % table.cycle) (omega (arith, rest)),
        floor_cycles table ok (d / table.cycle) (d % table.cycle),
        ap (floor_of table) (div-add-mod' d table.cycle),
      )

  pub promise_valid : IsPromise (Promised table.cycle (times_of table))
  promise_valid =
      let low = cycle_low table ok in
      let high = cycle_high table ok in
      let grows = floor_grows table ok in
      let times = rises_are (floor_of table) table.cycle high in
      let count : length (times_of table) ≡ supplied_sum table.slots = length_rises (floor_of table) grows table.cycle ∙
      floor_cycle table ok ∙ supplied_is table ok in
      let some = supplied_low table.slots ok.slots in
      let few = supplied_high table.slots ok.slots in (
        low,
        omega (arith, high),
        and_from _ _ (and_from _ _ (le-leb 1 (length (times_of table)) (omega (arith, count, some)))
            (le-leb (length (times_of table)) 1000 (omega (arith, count, few)))) times.fit,
        and_from _ _ times.rise (le-leb _ _ times.last),
      )
