use Rattle.std.proofs.Common.{◌≡◌, ℕ, ◌/◌, List, ◌++◌, sym, ◌∙◌, ap, subst, arith, length}
use Rattle.task_sheet.specs.Sheets.{IsPromise}
use Rattle.task_sheet.specs.declared.tasks.SupplySpec.TheVariants.{Promised}
use Rattle.supply.specs.Promises.{promised}
use Rattle.supply_table.specs.Floors.{floor_of, times_of}
use Rattle.supply_table.proofs.PromiseFacts.{promised_is, promise_valid}
use Rattle.supply_table.proofs.WaitFacts.{times_from}
use Rattle.supply_table.proofs.promising.promise.Goals as goal

times_are : (c : goal.After-drop-ticks-2) → c.loop-n.times.items ≡ times_of c.args.table.now
times_are c =
    times_from c.args.table.now c.cycle-valid.ensures.valid c.in_ok-ticks.ticks.items c.loop-n.times.items
    (c.len-once.result / 2) c.loop-n.n c.in_ok-ticks.ensures (omega (arith, c.len-once.ensures))
    (omega (arith, c.loop-n-test.false, c.loop-n.auto.n-end)) c.loop-n.invariant

pub returns-clause-times : goal.returns-clause-times
returns-clause-times c = times_are c

pub returns-clause-valid : goal.returns-clause-valid
returns-clause-valid c =
    let cycle = c.args.table.now.cycle in
    subst (λ (times : List ℕ). IsPromise (Promised cycle times)) (sym (times_are c)) (promise_valid c.args.table.now c.cycle-valid.ensures.valid)

pub returns-clause-floor : goal.returns-clause-floor
returns-clause-floor c = λ d.
    ap (λ (times : List ℕ). promised c.args.table.now.cycle times d) (times_are c) ∙ promised_is c.args.table.now c.cycle-valid.ensures.valid d
