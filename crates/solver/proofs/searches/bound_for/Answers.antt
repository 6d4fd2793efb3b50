use Rattle.std.proofs.Common.{arith, ap}
use Rattle.task_sheet.specs.declared.tasks.Task.{Task}
use Rattle.solver.proofs.Jumps.{bound_here}
use Rattle.solver.proofs.searches.bound_for.Goals as goal

pub returns-then-bound-limit : goal.returns-then-bound-limit
returns-then-bound-limit g c = (
  omega arith,
  bound_here _ _ _ _ c.laws.ensures _ _ _ c.in-Some.done _
      (record { holds = omega (arith, c.in-Some.ensures.1.holds); least = λ k h. c.in-Some.ensures.1.least k (omega (arith, h)) })
      (omega (arith, c.max.ensures, c.saturating_sub.ensures, ap (λ (t : Task). t.jitter) c.task.ensures.task)),
)
