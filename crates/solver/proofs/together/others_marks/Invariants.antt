use Rattle.std.proofs.Common.{◌≡◌, length}
use Rattle.demand.specs.Demand.{other_of}
use Rattle.solver.specs.Groups.{AreWhole}
use Rattle.solver.proofs.together.others_marks.Given as goal

abbrev pub invariant-loop-o : goal.invariant-loop-o
invariant-loop-o g l = record {
  set : AreWhole (other_of g.P.Policy.meaning l.sheet l.i l.a) l.sheet l.cut l.marks l.o;
  length : length l.marks ≡ 256;
}
