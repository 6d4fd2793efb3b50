use Rattle.std.proofs.Common.{ℕ, ◌+◌, List}
use Rattle.assign.specs.Trials.{IsSoFar}
use Rattle.assign.proofs.assignment.assign.Given as goal

abbrev pub invariant-loop-below : goal.invariant-loop-below
invariant-loop-below g l =
    (order : List ℕ) × IsSoFar g.M.Preemption.cuts (g.S.Supply.sbf l.supply) l.sheet l.horizon (l.below + 1) l.trial l.places.items order
