use Rattle.std.proofs.Common.{◌≤◌, ◌+◌, ◌-◌}
use Rattle.solver.specs.Loads.{IsBelowEnds}
use Rattle.solver.proofs.caps.longest_end.Given as goal

abbrev pub invariant-loop-long : goal.invariant-loop-long
invariant-loop-long g l = record {
  some : 1 ≤ l.long;
  below : IsBelowEnds g.P.Policy.meaning g.M.Preemption.cuts (g.S.Supply.sbf l.supply) l.sheet l.i l.a l.x l.limit l.bound;
  within : l.bound ≤ l.limit + 1;
}

abbrev pub decreases-loop-long : goal.decreases-loop-long
decreases-loop-long g l = 4000000001 - l.long
