use Rattle.std.proofs.Common.{◌≡◌, drop, max}
use Rattle.exercise.specs.Greatest.{greatest_by}
use Rattle.exercise.proofs.counting.worst_of.Given as goal

abbrev pub invariant-loop-task : goal.invariant-loop-task
invariant-loop-task l = max l.worst (greatest_by (λ s. s.worst) (drop l.task-index l.seen)) ≡ greatest_by (λ s. s.worst) l.seen
