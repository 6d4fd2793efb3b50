use Rattle.std.proofs.Common.{◌≡◌, ◌<◌, ◌-◌, Some}
use Rattle.lists.specs.Searches.{IsLeastTo}
use Rattle.demand.specs.Meeting.{IsWindow}
use Rattle.solver.proofs.Listed.{EntriesSoFar}
use Rattle.solver.proofs.analysis.best_cert.Given as goal

abbrev pub invariant-loop-i : goal.invariant-loop-i
invariant-loop-i g l =
    let p = g.P.Policy.meaning in
    let m = g.M.Preemption.cuts in
    let sbf = g.S.Supply.sbf l.supply in
    record {
      meter : l.meter.sheet ≡ l.sheet;
      before : 0 < l.i → IsLeastTo (IsWindow p m sbf l.sheet (l.i - 1)) l.horizon (Some l.before);
      so_far : EntriesSoFar p m sbf l.sheet l.horizon l.i l.room l.entries.items;
    }
