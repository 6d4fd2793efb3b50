use Rattle.std.proofs.Common.{◌≤◌, ◌*◌, ◌^◌}
use Rattle.solver.specs.Groups.{IsBehindTogether}
use Rattle.solver.proofs.groups.single_lags.Given as goal

abbrev pub invariant-loop-o : goal.invariant-loop-o
invariant-loop-o l = record {
  behind : IsBehindTogether l.sheet l.group l.o l.lags;
  bound : l.lags ≤ l.o * 2 ^ 50;
}
