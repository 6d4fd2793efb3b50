use Rattle.std.proofs.Common.{◌≡◌, drop, max}
use Rattle.exercise.specs.Greatest.{greatest_by}
use Rattle.exercise.proofs.counting.greatest_bound.Given as goal

abbrev pub invariant-loop-entry : goal.invariant-loop-entry
invariant-loop-entry l = max l.greatest (greatest_by (λ e. e.bound) (drop l.entry-index l.entries)) ≡ greatest_by (λ e. e.bound) l.entries
