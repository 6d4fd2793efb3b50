-- The conditions under release jitter, worked out by hand.
use Rattle.std.proofs.Common.{◌≡◌, ℕ, false, List, [], ◌∷◌, Some, None, refl}
use Rattle.curve.specs.Curves.{value_of, alpha_of}
use Rattle.task_sheet.specs.Sheets.{no_task}
use Rattle.policy.specs.Policies.{fp_meaning, fifo_meaning}
use Rattle.preemption.specs.Kinds.{per_task_meaning}
use Rattle.demand.specs.Demand.{own_of, others_of, blocking_of, need_of, window_need_of}
use Rattle.demand.proofs.Worked.{jitter, jitter_points, jitter_blocking}
use Rattle.certificate.specs.declared.cert.Version.TheVariants.{One}
use Rattle.certificate.specs.declared.cert.Cert.{Cert}
use Rattle.certificate.specs.declared.cert.Entry.{Entry}
use Rattle.certificate.specs.declared.cert.Point.{Point}
use Rattle.certificate.specs.Text.{point_of}
use Rattle.conditions.specs.declared.failed.Cond.TheVariants.{K2, K6, K8}
use Rattle.conditions.specs.Conditions.{no_entry, of_task, of_point, task_failed_of, failed_of}

abbrev pub entry : ℕ → ℕ → List Point → Entry
entry window bound points = record { window = window; bound = bound; points = points; terms = [] }

abbrev pub cert : List Entry → Cert
cert entries = record { version = One; entries = entries }

-- a jitter of 3: the bound counts from the arrival
jitter_meets : failed_of fp_meaning per_task_meaning (λ d. d) jitter false (cert (entry 2 5 (point_of 0 2 ∷ []) ∷ [])) ≡ None
unfolding failed_of task_failed_of need_of blocking_of own_of others_of window_need_of value_of alpha_of no_task no_entry
jitter_meets = refl

jitter_covers : failed_of fp_meaning per_task_meaning (λ d. d) jitter false (cert (entry 2 2 (point_of 0 2 ∷ []) ∷ [])) ≡ Some (of_task 0 K2)
unfolding failed_of task_failed_of need_of blocking_of own_of others_of window_need_of value_of alpha_of no_task no_entry
jitter_covers = refl

jitter_ends : failed_of fp_meaning per_task_meaning (λ d. d) jitter false (cert (entry 2 4 (point_of 0 2 ∷ []) ∷ [])) ≡ Some (of_point 0 0 K6)
unfolding failed_of task_failed_of need_of blocking_of own_of others_of window_need_of value_of alpha_of no_task no_entry
jitter_ends = refl

-- a jitter of 4: a second job may be released at offset 1
jitter_points_meets : failed_of fp_meaning per_task_meaning (λ d. d) jitter_points false (cert (entry 4 7 (point_of 0 2 ∷ point_of 1 4 ∷ []) ∷ [])) ≡ None
unfolding failed_of task_failed_of need_of blocking_of own_of others_of window_need_of value_of alpha_of no_task no_entry
jitter_points_meets = refl

-- in the order of arrivals, a task with jitter and one that is never preempted
jitter_blocking_meets : failed_of fifo_meaning per_task_meaning (λ d. d) jitter_blocking false
    (cert (entry 6 8 (point_of 0 6 ∷ []) ∷ entry 4 4 (point_of 0 2 ∷ []) ∷ [])) ≡ None
unfolding failed_of task_failed_of need_of blocking_of own_of others_of window_need_of value_of alpha_of no_task no_entry
jitter_blocking_meets = refl

jitter_blocking_rest : failed_of fifo_meaning per_task_meaning (λ d. d) jitter_blocking false
    (cert (entry 6 8 (point_of 0 6 ∷ []) ∷ entry 4 3 (point_of 0 2 ∷ []) ∷ [])) ≡ Some (of_point 1 0 K8)
unfolding failed_of task_failed_of need_of blocking_of own_of others_of window_need_of value_of alpha_of no_task no_entry
jitter_blocking_rest = refl
