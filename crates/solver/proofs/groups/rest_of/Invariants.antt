use Rattle.std.proofs.Common.{◌≡◌, length}
use Rattle.solver.specs.Groups.{IsRest}
use Rattle.solver.proofs.groups.rest_of.Given as goal

abbrev pub invariant-loop-o : goal.invariant-loop-o
invariant-loop-o l = record {
  set : IsRest l.sheet l.common l.marks l.rest l.o;
  length : length l.rest ≡ 256;
}
