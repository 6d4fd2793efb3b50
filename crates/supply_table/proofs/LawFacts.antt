use Rattle.std.proofs.Common.{◌≡◌, ℕ, zero, suc, ◌+◌, ◌-◌, ◌<◌, ◌≤◌, Bool, true, false, cond, length, refl, sym, ◌∙◌, ap, subst, arith, inl, inr}
use Rattle.std.proofs.lemmas.Bool.{cases_Bool}
use Rattle.lists.proofs.SumFacts.{cond_le}
use Rattle.run_model.specs.declared.run.Run.{Run}
use Rattle.run_model.specs.Runs.{tick_at, is_on, ticks_in}
use Rattle.run_model.proofs.ServiceFacts.{ticks_in_none, ticks_in_more}
use Rattle.supply_table.specs.TableParts.{TableParts}
use Rattle.supply_table.specs.Validity.{IsTable}
use Rattle.supply_table.specs.Floors.{is_supplied, on_of}
use Rattle.supply_table.specs.Laws.{Follows, TableSupplies}
use Rattle.supply_table.proofs.CountFacts.{count_none, count_more}
use Rattle.supply_table.proofs.FloorFacts.{floor_low}
use Rattle.supply_table.proofs.PromiseFacts.{promised_is}

-- as many ticks of a window are supplied as the table supplies there
on_kept : (table : TableParts) (p : ℕ) (run : Run) → Follows table p run → (t d : ℕ) → t + d ≤ length run.ticks → on_of table (t + p) d ≤ ticks_in is_on run t d
on_kept table p run follows t zero h = omega (arith, count_none (is_supplied table) (t + p))
on_kept table p run follows t (suc d) h =
    let at : t + d + p ≡ t + p + d = omega arith in
    let kept = cond_le (is_supplied table (t + d + p)) (is_on (tick_at run (t + d))) (follows (t + d) (omega arith)) in
    omega (
      arith,
      on_kept table p run follows t d (omega arith),
      count_more (is_supplied table) (t + p) d,
      ticks_in_more is_on run t d (omega arith),
      kept,
      ap (λ (w : ℕ). cond {A = ℕ} (is_supplied table w) 1 0) at,
    )

pub supplies : TableSupplies
supplies table p run ok follows t u order within =
    omega (arith, promised_is table ok (u - t), floor_low table ok (t + p) (u - t), on_kept table p run follows t (u - t) (omega (arith, order, within)))
