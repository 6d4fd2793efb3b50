-- Best certificates under release jitter, worked out by hand.
use Rattle.std.proofs.Common.{◌≡◌, [], ◌∷◌, Ok, Err, refl}
use Rattle.curve.specs.Curves.{value_of, alpha_of}
use Rattle.task_sheet.specs.Sheets.{no_task}
use Rattle.policy.specs.Policies.{fp_meaning, fifo_meaning}
use Rattle.preemption.specs.Kinds.{per_task_meaning}
use Rattle.demand.specs.Demand.{own_of, others_of, blocking_of, need_of, window_need_of}
use Rattle.demand.proofs.Worked.{jitter, jitter_points, jitter_blocking}
use Rattle.search_space.specs.Points.{is_point}
use Rattle.certificate.specs.Text.{point_of}
use Rattle.conditions.specs.Conditions.{no_entry}
use Rattle.conditions.proofs.Worked.{cert, entry}
use Rattle.solver.specs.declared.analysis.AnalyseRefusal.TheVariants.{NoBound}
use Rattle.solver.specs.declared.analysis.Part.TheVariants.{Window, Bound}
use Rattle.solver.specs.Points.{points_below}
use Rattle.solver.specs.Outcome.{least_to, best_points, best_of_window, first_entries, best_of}

jitter_best : best_of fp_meaning per_task_meaning (λ d. d) jitter 10 ≡ Ok (cert (entry 2 5 (point_of 0 2 ∷ []) ∷ []))
unfolding best_of first_entries best_of_window best_points points_below least_to is_point need_of blocking_of own_of others_of
    window_need_of value_of alpha_of no_task no_entry
jitter_best = refl

jitter_points_best : best_of fp_meaning per_task_meaning (λ d. d) jitter_points 10 ≡ Ok (cert (entry 4 7 (point_of 0 2 ∷ point_of 1 4 ∷ []) ∷ []))
unfolding best_of first_entries best_of_window best_points points_below least_to is_point need_of blocking_of own_of others_of
    window_need_of value_of alpha_of no_task no_entry
jitter_points_best = refl

-- up to 6 there is a window, but no bound
jitter_points_late : best_of fp_meaning per_task_meaning (λ d. d) jitter_points 6 ≡ Err (NoBound 0 Bound)
unfolding best_of first_entries best_of_window best_points points_below least_to is_point need_of blocking_of own_of others_of
    window_need_of value_of alpha_of no_task no_entry
jitter_points_late = refl

-- up to 3 there is no window
jitter_points_none : best_of fp_meaning per_task_meaning (λ d. d) jitter_points 3 ≡ Err (NoBound 0 Window)
unfolding best_of first_entries best_of_window best_points points_below least_to is_point need_of blocking_of own_of others_of
    window_need_of value_of alpha_of no_task no_entry
jitter_points_none = refl

jitter_blocking_best : best_of fifo_meaning per_task_meaning (λ d. d) jitter_blocking 10 ≡ Ok
    (cert (entry 6 8 (point_of 0 6 ∷ []) ∷ entry 4 4 (point_of 0 2 ∷ []) ∷ []))
unfolding best_of first_entries best_of_window best_points points_below least_to is_point need_of blocking_of own_of others_of
    window_need_of value_of alpha_of no_task no_entry
jitter_blocking_best = refl
