use Rattle.std.proofs.Common.{◌≤◌, length}
use Rattle.solver.proofs.CeilingFacts.{IsSpare}
use Rattle.solver.proofs.ceilings.spare.Given as goal

abbrev pub invariant-loop-k : goal.invariant-loop-k
invariant-loop-k l = record {
  is : IsSpare (length l.times) l.horizon l.times 0 l.k l.spare;
  bound : l.spare ≤ l.k;
}
