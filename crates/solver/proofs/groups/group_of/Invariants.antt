use Rattle.std.proofs.Common.{◌≡◌, length}
use Rattle.solver.specs.Groups.{IsGroup}
use Rattle.solver.proofs.groups.group_of.Given as goal

abbrev pub invariant-loop-o : goal.invariant-loop-o
invariant-loop-o l = record {
  set : IsGroup l.sheet l.common l.marks l.group l.o;
  length : length l.group ≡ 256;
}
