use Rattle.std.proofs.Common.{◌≤◌, ◌<◌, ◌*◌, ◌^◌}
use Rattle.solver.specs.Groups.{AskSo}
use Rattle.solver.proofs.groups.stretch_together.Given as goal

abbrev pub invariant-loop-o : goal.invariant-loop-o
invariant-loop-o l = record {
  asked : AskSo l.sheet l.group l.o l.d l.until l.asked;
  bound : l.asked ≤ l.o * 2 ^ 81;
  later : l.d < l.until;
  within : l.until ≤ l.end;
}
