use Rattle.std.proofs.Common.{◌≡◌, ℕ, suc, ◌+◌, ◌-◌, ◌*◌, ◌%◌, ◌<◌, ◌≤◌, Bool, true, cond, refl, sym, ◌∙◌, ap, subst, arith, add-one}
use Rattle.std.specs.List.{list_any}
use Rattle.std.proofs.lemmas.Bool.{leb-true}
use Rattle.std.proofs.lemmas.Bool.Decides.{nat_tests}
use Rattle.std.proofs.Math.Nat.{add-mod_right, mod-add-mod}
use Rattle.std.proofs.lemmas.Nat.{mod_below}
use Rattle.lists.proofs.SumFacts.{IsAt, min_low, min_at}
use Rattle.supply_table.specs.TableParts.{TableParts}
use Rattle.supply_table.specs.Validity.{IsTable, is_cycle}
use Rattle.supply_table.specs.Floors.{count_in, is_in_slot, is_supplied, on_of, floor_of}
use Rattle.supply_table.proofs.CountFacts.{count_none, count_step, count_same, IsPeriodic, count_cycle, count_cycles}

pub cycle_low : (table : TableParts) → IsTable table → 1 ≤ table.cycle
cycle_low table ok = let h = ok.cycle in grind (arith, nat_tests)

pub cycle_high : (table : TableParts) → IsTable table → table.cycle ≤ 100000
cycle_high table ok = let h = ok.cycle in grind (arith, nat_tests)

pub supplied_round : (table : TableParts) → IsPeriodic (is_supplied table) table.cycle
unfolding is_supplied
supplied_round table t = ap (λ (w : ℕ). list_any (is_in_slot w) table.slots) (add-mod_right t table.cycle)

supplied_phase : (table : TableParts) (p k : ℕ) → is_supplied table (p + k) ≡ is_supplied table (p % table.cycle + k)
unfolding is_supplied
supplied_phase table p k = ap (λ (w : ℕ). list_any (is_in_slot w) table.slots) (sym (mod-add-mod p table.cycle k))

module _ (table : TableParts) (ok : IsTable table) where
  -- no window has less than the floor
  pub floor_low : (p d : ℕ) → floor_of table d ≤ on_of table p d
  unfolding floor_of
  floor_low p d =
      let low = cycle_low table ok in
      let phase = mod_below p table.cycle (omega (arith, low)) in
      omega (
        arith,
        min_low (λ q. on_of table q d) (table.cycle - 1) (p % table.cycle) (omega (arith, phase)),
        count_same (is_supplied table) p (p % table.cycle) d (λ k h. supplied_phase table p k),
      )

  -- some window has just the floor
  pub floor_at : (d : ℕ) → IsAt (λ p. on_of table p d) (table.cycle - 1) (floor_of table d)
  unfolding floor_of
  floor_at d = min_at (λ p. on_of table p d) (table.cycle - 1)

  pub floor_zero : floor_of table 0 ≡ 0
  floor_zero = omega (arith, floor_low 0 0, count_none (is_supplied table) 0)

  pub floor_step : (d : ℕ) → (floor_of table d ≤ floor_of table (suc d)) × (floor_of table (suc d) ≤ floor_of table d + 1)
  floor_step d =
      let here = floor_at d in
      let next = floor_at (suc d) in (
        omega (arith, next.is, floor_low next.place d, (count_step (is_supplied table) next.place d).0),
        omega (arith, here.is, floor_low here.place (suc d), (count_step (is_supplied table) here.place d).1),
      )

  -- the ticks of a cycle
  pub floor_cycle : floor_of table table.cycle ≡ on_of table 0 table.cycle
  floor_cycle =
      let at = floor_at table.cycle in
      omega (arith, at.is, count_cycle (is_supplied table) table.cycle (supplied_round table) at.place)

  pub floor_cycles : (q r : ℕ) → floor_of table (q * table.cycle + r) ≡ q * floor_of table table.cycle + floor_of table r
  floor_cycles q r =
      let long = floor_at (q * table.cycle + r) in
      let short = floor_at r in
      let whole = ap (λ (w : ℕ). q * w) floor_cycle in
      omega (
        arith,
        whole,
        long.is,
        short.is,
        floor_low long.place r,
        floor_low short.place (q * table.cycle + r),
        count_cycles (is_supplied table) table.cycle (supplied_round table) long.place q r,
        count_cycles (is_supplied table) table.cycle (supplied_round table) short.place q r,
      )
