use Rattle.demand.specs.Demand.{other_of}
use Rattle.solver.specs.Loads.{IsUnderTo, IsSmallLine}
use Rattle.solver.proofs.caps.others_line.Given as goal

abbrev pub invariant-loop-o : goal.invariant-loop-o
invariant-loop-o g l = record {
  under : IsUnderTo (other_of g.P.Policy.meaning l.sheet l.i l.a) l.o l.x l.line;
  small : IsSmallLine l.o l.line;
}
