use Rattle.std.proofs.Common.{◌≡◌, ◌≤◌}
use Rattle.lists.specs.Limits.{greatest_number}
use Rattle.lists.specs.Sums.{max_below}
use Rattle.demand.specs.Demand.{block_of}
use Rattle.demand.proofs.needs.blocking.Given as goal

abbrev pub invariant-loop-o : goal.invariant-loop-o
invariant-loop-o g l = record {
  greatest : l.longest ≡ max_below (block_of g.P.Policy.meaning g.M.Preemption.cuts l.sheet l.i l.a) l.o;
  small : l.longest ≤ greatest_number;
}
