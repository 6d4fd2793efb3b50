use Rattle.std.proofs.Common.{◌≡◌, ◌≤◌, ◌*◌, ◌^◌}
use Rattle.lists.specs.Sums.{sum_below}
use Rattle.demand.specs.Demand.{other_of}
use Rattle.demand.proofs.needs.others.Given as goal

abbrev pub invariant-loop-o : goal.invariant-loop-o
invariant-loop-o g l = record {
  sum : l.sum ≡ sum_below (other_of g.P.Policy.meaning l.sheet l.i l.a l.x) l.o;
  small : l.sum ≤ l.o * 2 ^ 81;
}
