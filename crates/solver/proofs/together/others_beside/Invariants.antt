use Rattle.std.proofs.Common.{◌≤◌}
use Rattle.demand.specs.Demand.{other_of}
use Rattle.solver.specs.Loads.{IsSmallLine}
use Rattle.solver.specs.Groups.{IsBesideTo}
use Rattle.solver.proofs.together.others_beside.Given as goal

abbrev pub invariant-loop-o : goal.invariant-loop-o
invariant-loop-o g l = record {
  beside : IsBesideTo (other_of g.P.Policy.meaning l.sheet l.i l.a) l.sheet l.marks l.cut l.o l.x l.line;
  small : IsSmallLine l.o l.line;
  cut : l.line.cut ≤ l.cut;
}
