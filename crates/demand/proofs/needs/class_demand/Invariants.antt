use Rattle.std.proofs.Common.{◌≡◌, ◌≤◌, ◌*◌, ◌^◌}
use Rattle.lists.specs.Sums.{sum_below}
use Rattle.demand.specs.Demand.{class_part_of}
use Rattle.demand.proofs.needs.class_demand.Given as goal

abbrev pub invariant-loop-o : goal.invariant-loop-o
invariant-loop-o g l = record {
  sum : l.sum ≡ sum_below (class_part_of g.P.Policy.meaning l.sheet l.i l.l) l.o;
  small : l.sum ≤ l.o * 2 ^ 81;
}
