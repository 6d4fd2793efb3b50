use Rattle.std.proofs.Common.{◌≡◌, ◌+◌, ◌-◌, Some, subst, arith, ap}
use Rattle.lists.specs.Searches.{IsLeastTo}
use Rattle.demand.specs.Meeting.{IsWindow}
use Rattle.meter.specs.MeterParts.{MeterParts}
use Rattle.solver.specs.Ends.{IsEntryWithin}
use Rattle.solver.proofs.Listed.{entries_none, entries_counted, all_entries}
use Rattle.solver.proofs.analysis.best_cert.Goals as goal

pub loop-i-init : goal.loop-i-init
loop-i-init g c = record {
  meter = ap (λ (m : MeterParts). m.sheet) c.in-Ok.ensures;
  before = λ h. absurd (omega (arith, h));
  so_far = rw c.new-entries.ensures.items (entries_none _ _ _ _ _);
}

pub loop-i-preserved : goal.loop-i-preserved
loop-i-preserved g c =
    let p = g.P.Policy.meaning in
    let m = g.M.Preemption.cuts in
    let sbf = g.S.Supply.sbf c.args.supply.now in
    let sheet = c.args.sheet.now in
    let i = c.loop-i.i in
    let found = subst (IsEntryWithin p m sbf sheet i c.in-Some.window c.loop-i.room) c.in-Some-within.is c.in-Ok-found.ensures.best in
    let same : i ≡ i + 1 - 1 = omega arith in
    record {
      meter = c.best_entry-found.ensures.meter;
      before = λ h. subst (λ n. IsLeastTo (IsWindow p m sbf sheet n) c.args.horizon (Some c.in-Some.window)) same c.in-Some.ensures;
      so_far =
          rw c.in-Ok-push.ensures.items
          (entries_counted p m sbf sheet c.args.horizon i c.loop-i.room c.len-count.result c.loop-i.entries.items
          c.in-Some-within.entry c.loop-i.invariant.so_far
          (record { window = omega (arith, found.is_for, c.in-Some.ensures.0); bound = omega arith; best = found.best })
          c.len-count.ensures (omega (arith, found.few, c.len-count.ensures)));
    }

pub returns-clause-best : goal.returns-clause-best
returns-clause-best g c = rw c.new-2.ensures (all_entries _ _ _ _ _ c.loop-i.i _ _ (omega arith) c.loop-i.invariant.so_far)
