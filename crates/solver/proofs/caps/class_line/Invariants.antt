use Rattle.demand.specs.Demand.{class_part_of}
use Rattle.solver.specs.Loads.{IsUnderTo, IsSmallLine}
use Rattle.solver.proofs.caps.class_line.Given as goal

abbrev pub invariant-loop-o : goal.invariant-loop-o
invariant-loop-o g l = record {
  under : IsUnderTo (class_part_of g.P.Policy.meaning l.sheet l.i) l.o l.x l.line;
  small : IsSmallLine l.o l.line;
}
