use Rattle.std.proofs.Common.{◌≡◌, drop, map}
use Rattle.std.specs.Prelude.{bytes_eq}
use Rattle.std.specs.List.{list_any}
use Rattle.task_sheet.proofs.checking.is_taken.Given as goal

abbrev pub invariant-loop-task : goal.invariant-loop-task
invariant-loop-task l = list_any (bytes_eq l.name) (map (λ t. t.name) (drop l.task-index l.earlier)) ≡ list_any (bytes_eq l.name) (map (λ t. t.name) l.earlier)
