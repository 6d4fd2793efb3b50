use Rattle.std.proofs.Common.{◌≡◌, length}
use Rattle.demand.specs.Demand.{class_part_of}
use Rattle.solver.specs.Groups.{AreWhole}
use Rattle.solver.proofs.together.class_marks.Given as goal

abbrev pub invariant-loop-o : goal.invariant-loop-o
invariant-loop-o g l = record {
  set : AreWhole (class_part_of g.P.Policy.meaning l.sheet l.i) l.sheet 4000000000 l.marks l.o;
  length : length l.marks ≡ 256;
}
