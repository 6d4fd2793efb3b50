-- Demands under release jitter, worked out by hand.
use Rattle.std.proofs.Common.{◌≡◌, ℕ, [], ◌∷◌, pos, refl}
use Rattle.curve.specs.Curves.{value_of, alpha_of, periodic}
use Rattle.task_sheet.specs.SheetParts.{SheetParts}
use Rattle.task_sheet.specs.Sheets.{no_task}
use Rattle.task_sheet.specs.declared.tasks.PolicyKind.TheVariants.{Fp, Fifo}
use Rattle.task_sheet.specs.declared.tasks.SupplySpec.TheVariants.{Unit as Whole}
use Rattle.task_sheet.specs.declared.tasks.Cut.{Cut}
use Rattle.task_sheet.specs.declared.tasks.Cut.TheVariants.{Full, Never}
use Rattle.task_sheet.specs.declared.tasks.Task.{Task}
use Rattle.policy.specs.Policies.{fp_meaning, fifo_meaning}
use Rattle.preemption.specs.Kinds.{per_task_meaning}
use Rattle.demand.specs.Demand.{own_of, others_of, blocking_of, need_of, window_need_of}

-- a task of one job in each period, whose deadline is the period
abbrev pub jittered : ℕ → ℕ → ℕ → Cut → Task
jittered cost period jitter cut = record {
  name = 97 ∷ [];
  cost = cost;
  deadline = period;
  priority = 1;
  jitter = jitter;
  point = pos 0;
  curve = periodic period;
  cut = cut;
}

abbrev pub jitter : SheetParts
jitter = record { policy = Fp; supply = Whole; tasks = jittered 2 5 3 Full ∷ [] }

-- so much jitter that two jobs are released close to each other
abbrev pub jitter_points : SheetParts
jitter_points = record { policy = Fp; supply = Whole; tasks = jittered 2 5 4 Full ∷ [] }

-- a job that was released before, and arrived later, blocks
abbrev pub jitter_blocking : SheetParts
jitter_blocking = record { policy = Fifo; supply = Whole; tasks = jittered 1 10 2 Full ∷ jittered 3 10 0 Never ∷ [] }

-- the demand of a task alone, whose class is itself
abbrev alone : SheetParts → ℕ → ℕ → ℕ
alone sheet a x = need_of fp_meaning per_task_meaning sheet 0 a x

abbrev window_alone : SheetParts → ℕ → ℕ
window_alone sheet l = window_need_of fp_meaning per_task_meaning sheet 0 l

abbrev shared : ℕ → ℕ → ℕ
shared i x = need_of fifo_meaning per_task_meaning jitter_blocking i 0 x

abbrev window_shared : ℕ → ℕ → ℕ
window_shared i l = window_need_of fifo_meaning per_task_meaning jitter_blocking i l

-- one job in a window of 2 ticks, with a jitter of 3
jitter_window : window_alone jitter 2 ≡ 2
unfolding window_need_of value_of alpha_of no_task
jitter_window = refl

jitter_need : alone jitter 0 2 ≡ 2
unfolding need_of blocking_of own_of others_of value_of alpha_of no_task
jitter_need = refl

-- two jobs in a window of 3 ticks, with a jitter of 4
jitter_points_window : (window_alone jitter_points 3 ∷ window_alone jitter_points 4 ∷ []) ≡ (4 ∷ 4 ∷ [])
unfolding window_need_of value_of alpha_of no_task
jitter_points_window = refl

-- one job up to a release at offset 0, and a second up to offset 1
jitter_points_need : (alone jitter_points 0 2 ∷ alone jitter_points 1 4 ∷ []) ≡ (2 ∷ 4 ∷ [])
unfolding need_of blocking_of own_of others_of value_of alpha_of no_task
jitter_points_need = refl

-- the task with jitter is delayed by what is left of the other's segment, which is never preempted
jitter_blocking_window : (window_shared 0 6 ∷ window_shared 1 4 ∷ []) ≡ (6 ∷ 4 ∷ [])
unfolding window_need_of value_of alpha_of no_task
jitter_blocking_window = refl

jitter_blocking_need : (shared 0 6 ∷ shared 1 2 ∷ []) ≡ (6 ∷ 2 ∷ [])
unfolding need_of blocking_of own_of others_of value_of alpha_of no_task
jitter_blocking_need = refl
