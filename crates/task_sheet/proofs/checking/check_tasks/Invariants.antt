use Rattle.std.proofs.Common.{◌≡◌, ℕ, ◌<◌, [], drop, take, map, get_or}
use Rattle.curve.specs.Validity.{IsCurve}
use Rattle.task_sheet.specs.Rules.{tasks_rule}
use Rattle.task_sheet.specs.Sheets.{no_task}
use Rattle.task_sheet.proofs.checking.check_tasks.Given as goal

abbrev pub invariant-loop-i : goal.invariant-loop-i
invariant-loop-i l = record {
  rest : tasks_rule l.i (map (λ t. t.name) (take l.i l.tasks)) (drop l.i l.tasks) ≡ tasks_rule 0 [] l.tasks;
  curves : (k : ℕ) → k < l.i → IsCurve (get_or l.tasks k no_task).curve;
}
