-- What holds of a simulated run so far.
use Rattle.std.proofs.Common.{◌≡◌, ℕ, suc, ◌+◌, ◌-◌, ◌<◌, ◌≤◌, false, length}
use Rattle.curve.specs.Curves.{alpha_of}
use Rattle.task_sheet.specs.Sheets.{task_at, IsValidSheet}
use Rattle.policy.specs.PolicyLaws.{IsLawfulPolicy}
use Rattle.preemption.specs.CutLaws.{IsLawfulCut, IsTabledCut}
use Rattle.run_model.specs.declared.run.Run.{Run}
use Rattle.run_model.specs.Runs.{job_at, service_of, IsDone}
use Rattle.schedule_laws.specs.Compliance.{arrivals_of, can_cut, IsCompliant}
use Rattle.simulated_run.specs.Jobs.{released_by, last_release}
use Rattle.simulated_run.specs.SimulatedRun.{World}

-- the laws by which a simulated run complies
pub record IsLawful (w : World) : Type 0 where
  pub sheet : IsValidSheet w.sheet
  pub policy : IsLawfulPolicy w.policy w.sheet
  pub cuts : (o : ℕ) → o < length w.sheet.tasks → IsLawfulCut w.cuts (task_at w.sheet o)
  pub tabled : (o : ℕ) → o < length w.sheet.tasks → IsTabledCut w.cuts (task_at w.sheet o)
  pub starts : w.sbf 0 ≡ 0
  pub rises : (d : ℕ) → w.sbf (d + 1) ≤ w.sbf d + 1

-- what holds of the run before tick t, with the jobs that have arrived by t
pub record IsSound (w : World) (t : ℕ) (run : Run) : Type 0 where
  pub now : length run.ticks ≡ t
  pub early : (k : ℕ) → k < length run.jobs → (job_at run k).arrival ≤ t
  -- a job of the same task that arrives now is not released earlier
  pub next : (k state : ℕ) → k < length run.jobs →
      (job_at run k).release ≤ released_by w.mode (task_at w.sheet (job_at run k).task).jitter t (last_release (job_at run k).task run.jobs) state
  pub complies : IsCompliant w.policy w.cuts w.sbf w.sheet run
  -- where a job has run, the jobs of its task that arrived earlier are done
  pub ahead : (k n : ℕ) → k < length run.jobs → n < length run.jobs → 0 < service_of run k t →
      (job_at run n).task ≡ (job_at run k).task → (job_at run n).arrival < (job_at run k).arrival → IsDone run n t
  -- at most one job is inside a segment
  pub single : (k n : ℕ) → k < length run.jobs → n < length run.jobs → can_cut w.cuts w.sheet run k t ≡ false → can_cut w.cuts w.sheet run n t ≡ false → k ≡ n

-- n more jobs of task o may arrive at t
abbrev pub HasRoom : World → ℕ → ℕ → ℕ → Run → Type 0
HasRoom w o t n run = (s : ℕ) → s ≤ t → arrivals_of run o s (suc t) + n ≤ alpha_of (task_at w.sheet o).curve (t + 1 - s)
