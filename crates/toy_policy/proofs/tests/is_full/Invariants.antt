use Rattle.std.proofs.Common.{◌≡◌, ℕ, ◌<◌, true}
use Rattle.preemption.specs.Kinds.{is_full}
use Rattle.task_sheet.specs.Sheets.{task_at}
use Rattle.toy_policy.proofs.tests.is_full.Given as goal

abbrev pub invariant-loop-i : goal.invariant-loop-i
invariant-loop-i l = (o : ℕ) → o < l.i → is_full (task_at l.sheet o).cut ≡ true
