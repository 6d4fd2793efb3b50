use Rattle.std.specs.Prelude.{◌≡◌, ℕ, ◌-◌, ◌<◌, ◌≤◌, ◌≢◌, ◌==◌, ◌&&◌, Bool, true, false, length, count_by, nat_le, nat_lt}
use Rattle.curve.specs.Curves.{alpha_of}
use Rattle.task_sheet.specs.SheetParts.{SheetParts}
use Rattle.task_sheet.specs.Sheets.{task_at, IsOf, IsTimely}
use Rattle.task_sheet.specs.declared.tasks.Job.{Job}
use Rattle.policy.specs.Keys.{key_le}
use Rattle.policy.specs.PolicyMeaning.{PolicyMeaning}
use Rattle.preemption.specs.CutMeaning.{CutMeaning}
use Rattle.run_model.specs.declared.run.Run.{Run}
use Rattle.run_model.specs.declared.run.Tick.TheVariants.{Off, Idle, Runs}
use Rattle.run_model.specs.Runs.{job_at, tick_at, is_on, service_of, ticks_in, IsDone, IsPending}

-- the job is of task o, and arrives in [t, u)
abbrev pub arrives_in : ℕ → ℕ → ℕ → Job → Bool
arrives_in o t u j = (j.task == o) && (nat_le t j.arrival && nat_lt j.arrival u)

-- how many jobs of task o arrive in [t, u)
unfoldable pub arrivals_of : Run → ℕ → ℕ → ℕ → ℕ
arrivals_of run o t u = count_by (arrives_in o t u) run.jobs

-- job k can be cut at t
abbrev pub can_cut : CutMeaning → SheetParts → Run → ℕ → ℕ → Bool
can_cut m sheet run k t = m.cuttable (task_at sheet (job_at run k).task) (job_at run k) (service_of run k t)

-- job k is of a task of the sheet, and fits it
pub record JobFits (m : CutMeaning) (sheet : SheetParts) (run : Run) (k : ℕ) : Type 0 where
  pub task : IsOf sheet (job_at run k)
  pub fit : m.fits (task_at sheet (job_at run k).task) (job_at run k) ≡ true

-- job k is released within its task's jitter, and no job of its task that arrives earlier is released later
pub record IsReleased (sheet : SheetParts) (run : Run) (k : ℕ) : Type 0 where
  pub timely : IsTimely sheet (job_at run k)
  pub order : (n : ℕ) → n < length run.jobs → (job_at run n).task ≡ (job_at run k).task →
      (job_at run n).arrival < (job_at run k).arrival → (job_at run n).release ≤ (job_at run k).release

-- tick t runs job k: it is pending, and the jobs of its task that arrived earlier are done
pub record MayRun (run : Run) (k t : ℕ) : Type 0 where
  pub pending : IsPending run k t
  pub in_order : (n : ℕ) → n < length run.jobs → (job_at run n).task ≡ (job_at run k).task →
      (job_at run n).arrival < (job_at run k).arrival → IsDone run n t

-- every job fits and is released as its task allows, and every tick that runs a job may run it
pub record IsValidRun (m : CutMeaning) (sheet : SheetParts) (run : Run) : Type 0 where
  pub jobs : (k : ℕ) → k < length run.jobs → JobFits m sheet run k
  pub releases : (k : ℕ) → k < length run.jobs → IsReleased sheet run k
  pub ticks : (t k : ℕ) → t < length run.ticks → tick_at run t ≡ Runs k → MayRun run k t

-- in every window [t, u) at most as many jobs of a task arrive as its curve says
abbrev pub IsWithinCurves : SheetParts → Run → Type 0
IsWithinCurves sheet run = (o t u : ℕ) → o < length sheet.tasks → t ≤ u → arrivals_of run o t u ≤ alpha_of (task_at sheet o).curve (u - t)

-- every window [t, u) has at least the promised ticks
abbrev pub IsSupplied : (ℕ → ℕ) → Run → Type 0
IsSupplied sbf run = (t u : ℕ) → t ≤ u → u ≤ length run.ticks → sbf (u - t) ≤ ticks_in is_on run t (u - t)

-- no job is pending at a tick that is idle
abbrev pub IsWorkConserving : Run → Type 0
IsWorkConserving run = (t k : ℕ) → t < length run.ticks → tick_at run t ≡ Idle → IsPending run k t → ⊥

-- a job inside a segment runs at every supplied tick
abbrev pub KeepsSegments : CutMeaning → SheetParts → Run → Type 0
KeepsSegments m sheet run = (t k : ℕ) → t < length run.ticks → k < length run.jobs → tick_at run t ≢ Off →
    can_cut m sheet run k t ≡ false → tick_at run t ≡ Runs k

-- a job that runs where it can be cut is at least as urgent as every pending job
abbrev pub KeepsPolicy : PolicyMeaning → CutMeaning → SheetParts → Run → Type 0
KeepsPolicy p m sheet run =
    (t k n : ℕ) → t < length run.ticks → tick_at run t ≡ Runs k → can_cut m sheet run k t ≡ true → IsPending run n t →
    key_le (p.key sheet (job_at run k)) (p.key sheet (job_at run n)) ≡ true

-- a run that complies with a sheet
pub record IsCompliant (p : PolicyMeaning) (m : CutMeaning) (sbf : ℕ → ℕ) (sheet : SheetParts) (run : Run) : Type 0 where
  pub valid : IsValidRun m sheet run
  pub curves : IsWithinCurves sheet run
  pub supplied : IsSupplied sbf run
  pub conserving : IsWorkConserving run
  pub segments : KeepsSegments m sheet run
  pub policy : KeepsPolicy p m sheet run
