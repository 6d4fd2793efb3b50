use Rattle.demand.specs.Demand.{class_part_of}
use Rattle.solver.specs.Loads.{IsSmallLine}
use Rattle.solver.specs.Groups.{IsBesideTo}
use Rattle.solver.proofs.together.class_beside.Given as goal

abbrev pub invariant-loop-o : goal.invariant-loop-o
invariant-loop-o g l = record {
  beside : IsBesideTo (class_part_of g.P.Policy.meaning l.sheet l.i) l.sheet l.marks 4000000000 l.o l.x l.line;
  small : IsSmallLine l.o l.line;
}
