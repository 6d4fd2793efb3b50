use Rattle.std.proofs.Common.{arith}
use Rattle.solver.proofs.BoundFacts.{served_by, none_late}
use Rattle.solver.proofs.bounds.task_bound.Goals as goal
use Rattle.solver.proofs.bounds.task_bound.Goals.{else-bound-limit-via-then-bound-limit+else-bound-horizon, else-bound-limit-via-else-bound-limit}

pub returns-then-bound-horizon-clause-serves : goal.returns-then-bound-horizon-clause-serves
returns-then-bound-horizon-clause-serves g c =
    served_by _ _ _ _ c.laws.ensures _ _ c.requires.task c.in-Some.window _ c.in-Some-bound_below.ensures
    c.in-Some.ensures.0 (omega (arith, c.if-bound-horizon.true))

pub returns-clause-least : goal.returns-clause-least
returns-clause-least g c =
    none_late _ _ _ _ c.laws.ensures _ _ c.requires.task c.in-Some.window c.in-Some-bound_below.bound _ c.in-Some-bound_below.ensures
    (λ within up_to. elim c.else-bound-limit.branch [
      | else-bound-limit-via-then-bound-limit+else-bound-horizon w ↦ absurd (omega (arith, w.if-bound-horizon.false, up_to))
      | else-bound-limit-via-else-bound-limit w ↦ absurd (omega (arith, w.if-bound-limit.false, within))
    ])
