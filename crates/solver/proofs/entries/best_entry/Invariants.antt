use Rattle.std.proofs.Common.{◌≡◌, ◌-◌}
use Rattle.meter.specs.Meters.{meter_at}
use Rattle.solver.specs.Ends.{HasNoEndBefore}
use Rattle.solver.proofs.Listing.{SoFar}
use Rattle.solver.proofs.entries.best_entry.Given as goal

abbrev pub invariant-loop-alloc : goal.invariant-loop-alloc
invariant-loop-alloc g l =
    let p = g.P.Policy.meaning in
    let m = g.M.Preemption.cuts in
    let sbf = g.S.Supply.sbf l.supply in
    record {
      at : l.meter ≡ meter_at l.sheet l.i l.a l.begin;
      before : HasNoEndBefore p m sbf l.sheet l.i l.a l.begin;
      so_far : SoFar p m sbf l.sheet l.i l.window l.a l.bound l.points.items;
    }

abbrev pub decreases-loop-alloc : goal.decreases-loop-alloc
decreases-loop-alloc g l = l.window - l.a
