use Rattle.std.proofs.Common.{◌≤◌, ◌-◌}
use Rattle.lists.specs.Limits.{greatest_value}
use Rattle.solver.specs.Loads.{IsBehind}
use Rattle.solver.proofs.load.lag.Given as goal

abbrev pub invariant-loop-begun : goal.invariant-loop-begun
invariant-loop-begun l = record {
  behind : IsBehind l.curve l.begun l.lag;
  bound : l.lag ≤ greatest_value;
}

abbrev pub decreases-loop-begun : goal.decreases-loop-begun
decreases-loop-begun l = l.horizon - l.begun
