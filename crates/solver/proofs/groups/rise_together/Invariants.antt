use Rattle.std.proofs.Common.{◌≤◌, ◌*◌, ◌^◌}
use Rattle.solver.specs.Groups.{RisesBy}
use Rattle.solver.proofs.groups.rise_together.Given as goal

abbrev pub invariant-loop-o : goal.invariant-loop-o
invariant-loop-o l = record {
  rises : RisesBy l.sheet l.group l.o l.fixed l.rate;
  fixed : l.fixed ≤ l.o * 2 ^ 116;
  rate : l.rate ≤ l.o * 2 ^ 86;
}
