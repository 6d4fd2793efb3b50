use Rattle.std.proofs.Common.{ap, refl, sym, ◌∙◌, arith}
use Rattle.solver.specs.declared.analysis.AnalyseRefusal.TheVariants.{NoBound, Points}
use Rattle.simulator.specs.declared.refusal.SimRefusal.TheVariants.{Jobs, Segments}
use Rattle.audit.specs.Faults.{first_broken}
use Rattle.policy.specs.Policies.{edf_meaning}
use Rattle.preemption.specs.Kinds.{per_task_meaning}
use Rattle.exercise.specs.declared.outcome.Exercise.{Exercise}
use Rattle.exercise.proofs.BoundFacts.{worst_within}
use Rattle.exercise.proofs.OutcomeFacts.{whole, never_refused, cert_is, never_stopped, run_is, seen_is, points_few, done_few, exercise_is, exercise_holds}
use Rattle.exercise.proofs.running.exercise.Goals as goal

pub unreachable-requires : goal.unreachable-requires
unreachable-requires c =
    never_refused c.args.seed c.args.tasks c.in_ok-sheet.sheet (NoBound c.in-Err-NoBound.field-0-0 c.in-Err-NoBound.field-0-1) c.in_ok-sheet.ensures
    (c.exercise_succeeds.ensures c.args.seed c.args.tasks c.requires.some c.requires.few)
    (rw c.in-Err-NoBound.field-0-is at c.in-Err-NoBound.ensures.exact)

pub unreachable-requires-in-Err-Points : goal.unreachable-requires-in-Err-Points
unreachable-requires-in-Err-Points c =
    never_refused c.args.seed c.args.tasks c.in_ok-sheet.sheet (Points c.in-Err-Points.field-0-0) c.in_ok-sheet.ensures
    (c.exercise_succeeds.ensures c.args.seed c.args.tasks c.requires.some c.requires.few)
    (rw c.in-Err-Points.field-0-is at c.in-Err-Points.ensures.exact)

pub simulate-requires-clause-stated : goal.simulate-requires-clause-stated
simulate-requires-clause-stated c = whole c.args.seed c.args.tasks c.in_ok-sheet.sheet c.in_ok-sheet.ensures

pub unreachable-requires-in-Err-Jobs : goal.unreachable-requires-in-Err-Jobs
unreachable-requires-in-Err-Jobs c =
    never_stopped c.args.seed c.args.tasks c.in_ok-sheet.sheet Jobs c.in_ok-sheet.ensures
    (c.exercise_succeeds.ensures c.args.seed c.args.tasks c.requires.some c.requires.few)
    (rw c.in-Err-Jobs.field-0-is at c.in-Err-Jobs.ensures.exact)

pub unreachable-requires-in-Err-Segments : goal.unreachable-requires-in-Err-Segments
unreachable-requires-in-Err-Segments c =
    never_stopped c.args.seed c.args.tasks c.in_ok-sheet.sheet Segments c.in_ok-sheet.ensures
    (c.exercise_succeeds.ensures c.args.seed c.args.tasks c.requires.some c.requires.few)
    (rw c.in-Err-Segments.field-0-is at c.in-Err-Segments.ensures.exact)

pub audit-requires-clause-stated : goal.audit-requires-clause-stated
audit-requires-clause-stated c = whole c.args.seed c.args.tasks c.in_ok-sheet.sheet c.in_ok-sheet.ensures

pub count_points-requires : goal.count_points-requires
count_points-requires c = omega (arith, points_few c.in_ok-sheet.sheet c.in-Ok.cert c.as_slice.result.now c.as_slice.ensures c.in-Ok.ensures.best)

pub count_done-requires : goal.count_done-requires
count_done-requires c =
    let fault = first_broken edf_meaning per_task_meaning (λ d. d) c.in_ok-sheet.sheet c.in-Ok-simulate.run' in
    let seen =
    seen_is c.args.seed c.args.tasks c.in_ok-sheet.sheet c.in-Ok-simulate.run' fault c.in-Compliant.seen c.in_ok-sheet.ensures
    (sym c.in-Compliant.is ∙ c.in_ok-seen.ensures.exact) in
    omega (
      arith,
      done_few c.args.tasks c.in-Ok-simulate.run' c.in-Compliant.seen c.as_slice-3.result.now c.requires.few
          c.in-Ok-simulate.ensures.within.few_jobs seen c.as_slice-3.ensures,
    )

pub returns-clause-exact : goal.returns-clause-exact
returns-clause-exact c =
    let law = c.exercise_succeeds.ensures c.args.seed c.args.tasks c.requires.some c.requires.few in
    let fault = first_broken edf_meaning per_task_meaning (λ d. d) c.in_ok-sheet.sheet c.in-Ok-simulate.run' in
    let seen =
    seen_is c.args.seed c.args.tasks c.in_ok-sheet.sheet c.in-Ok-simulate.run' fault c.in-Compliant.seen c.in_ok-sheet.ensures
    (sym c.in-Compliant.is ∙ c.in_ok-seen.ensures.exact) in
    exercise_is c.args.seed c.args.tasks c.in-Ok.cert c.in-Ok-simulate.run' c.in-Compliant.seen _
    (cert_is c.args.seed c.args.tasks c.in_ok-sheet.sheet c.in-Ok.cert c.in_ok-sheet.ensures c.in-Ok.ensures.exact)
    (run_is c.args.seed c.args.tasks c.in_ok-sheet.sheet c.in-Ok-simulate.run' c.in_ok-sheet.ensures law c.in-Ok-simulate.ensures.exact)
    seen
    (rw (
      c.count_points.ensures,
      c.greatest_bound.ensures,
      c.len.ensures,
      c.count_done.ensures,
      c.worst_of.ensures,
      c.as_slice.ensures,
      c.as_slice-2.ensures,
      c.as_slice-3.ensures,
      c.as_slice-4.ensures,
    )
    refl)

pub returns-clause-sound : goal.returns-clause-sound
returns-clause-sound c =
    exercise_holds c.args.seed c.args.tasks c.in_ok-sheet.sheet c.in-Ok.cert c.requires.some c.requires.few c.in_ok-sheet.ensures
    (cert_is c.args.seed c.args.tasks c.in_ok-sheet.sheet c.in-Ok.cert c.in_ok-sheet.ensures c.in-Ok.ensures.exact)
    c.in-Ok.ensures.within c.in-Ok.ensures.meets

pub returns-clause-bounded : goal.returns-clause-bounded
returns-clause-bounded c =
    let same = returns-clause-exact c in
    let holds = returns-clause-sound c in
    omega (
      arith,
      worst_within c.args.seed c.args.tasks (c.points_bound.ensures (record {}) tt) c.requires.some c.requires.few holds,
      ap (λ (e : Exercise). e.worst) same,
      ap (λ (e : Exercise). e.greatest) same,
    )
