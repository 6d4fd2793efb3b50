use Rattle.std.proofs.Common.{◌-◌, length}
use Rattle.solver.specs.Groups.{IsBehindBelow}
use Rattle.solver.proofs.groups.lag_together.Given as goal

abbrev pub invariant-loop-begun : goal.invariant-loop-begun
invariant-loop-begun l = IsBehindBelow l.sheet l.group (length l.sheet.tasks) l.begun l.lag

abbrev pub decreases-loop-begun : goal.decreases-loop-begun
decreases-loop-begun l = l.common - l.begun
