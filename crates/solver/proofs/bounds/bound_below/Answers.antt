use Rattle.std.proofs.Common.{ap, arith, [], ◌∷◌, ◌++◌}
use Rattle.task_sheet.specs.declared.tasks.Task.{Task}
use Rattle.certificate.specs.Text.{point_of}
use Rattle.solver.proofs.Least.{end_exists, bound_exists}
use Rattle.solver.proofs.Listing.{so_far_first, so_far_more}
use Rattle.solver.proofs.BoundFacts.{bound_is_best, offset_least}
use Rattle.solver.proofs.bounds.bound_below.Goals as goal

pub loop-end-init : goal.loop-end-init
loop-end-init g c =
    ([], so_far_first _ _ _ _ c.laws.ensures _ _ _ c.requires.least.holds.positive (omega (arith, ap (λ (t : Task). t.jitter) c.task.ensures.task)))

pub unreachable-requires : goal.unreachable-requires
unreachable-requires g c = end_exists _ _ _ _ c.laws.ensures _ c.requires.task _ c.loop-end.a c.requires.least.holds
    c.loop-end.invariant.1.lies c.in_default.ensures

pub unreachable-requires-in_default-least_bound : goal.unreachable-requires-in_default-least_bound
unreachable-requires-in_default-least_bound g c =
    bound_exists _ _ _ _ c.laws.ensures _ c.requires.task c.args.window _ c.loop-end.a c.in-Some.end
    (omega (arith, ap (λ (t : Task). t.jitter) c.task.ensures.task)) c.requires.least.holds
    c.loop-end.invariant.1.lies c.in-Some.ensures.0 c.in_default-least_bound.ensures

pub returns-then-least-limit : goal.returns-then-least-limit
returns-then-least-limit g c =
    offset_least _ _ _ _ c.laws.ensures _ c.args.window c.loop-end.a c.in-Some.end c.in-Some-least_bound.least c.args.limit
    c.requires.task c.requires.least c.loop-end.invariant.1.lies c.in-Some.ensures.1 c.in-Some-least_bound.ensures.1
    (omega (arith, c.if-least-limit.true))

pub returns-in_default-next_point : goal.returns-in_default-next_point
returns-in_default-next_point g c =
    rw c.max-bound.ensures
    (bound_is_best _ _ _ _ c.laws.ensures _ _ _ _ _ c.loop-end.invariant.1 _ _ c.in-Some.ensures.1
    c.in-Some-least_bound.ensures.1 c.requires.least c.in_default-next_point.ensures)

pub loop-end-preserved : goal.loop-end-preserved
loop-end-preserved g c = (
  c.loop-end.invariant.0 ++ point_of c.loop-end.a c.in-Some.end ∷ [],
  rw c.max-bound.ensures
      (so_far_more _ _ _ _ c.laws.ensures _ _ _ _ _ c.loop-end.invariant.1 _ _ c.in-Some.ensures.1
      c.in-Some-least_bound.ensures.1 c.in-Some-next_point.next c.in-Some-next_point.ensures),
)
