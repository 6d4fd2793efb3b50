-- What is known of a run when a rule is judged.
use Rattle.std.specs.Prelude.{◌≡◌, ℕ, ◌<◌, ◌≤◌, true, length}
use Rattle.lists.specs.Limits.{most_jobs, most_ticks, greatest_number}
use Rattle.task_sheet.specs.SheetParts.{SheetParts}
use Rattle.run_model.specs.declared.run.Run.{Run}
use Rattle.run_model.specs.declared.run.Tick.TheVariants.{Runs}
use Rattle.run_model.specs.Runs.{job_at, tick_at}
use Rattle.preemption.specs.CutMeaning.{CutMeaning}
use Rattle.schedule_laws.specs.Compliance.{JobFits}
use Rattle.schedule_laws.specs.Tests.{is_valid_at}

-- the run is of the size that can be written, and the ticks run its jobs
pub record IsSmall (run : Run) : Type 0 where
  pub few_jobs : length run.jobs ≤ most_jobs
  pub few_ticks : length run.ticks ≤ most_ticks
  pub early : (k : ℕ) → k < length run.jobs → (job_at run k).arrival ≤ greatest_number
  pub named : (t k : ℕ) → tick_at run t ≡ Runs k → k < length run.jobs

-- each job is released at its arrival or later, and those of one task in the order of their arrivals
pub record AreReleased (run : Run) : Type 0 where
  pub after : (k : ℕ) → k < length run.jobs → (job_at run k).arrival ≤ (job_at run k).release
  pub order : (n k : ℕ) → n < length run.jobs → k < length run.jobs → (job_at run n).task ≡ (job_at run k).task →
      (job_at run n).arrival < (job_at run k).arrival → (job_at run n).release ≤ (job_at run k).release

-- every job fits
abbrev pub AreFitting : CutMeaning → SheetParts → Run → Type 0
AreFitting m sheet run = (k : ℕ) → k < length run.jobs → JobFits m sheet run k

-- every job needs some service
abbrev pub ArePositive : Run → Type 0
ArePositive run = (k : ℕ) → k < length run.jobs → 1 ≤ (job_at run k).cost

-- every tick is valid
abbrev pub AreValid : Run → Type 0
AreValid run = (t : ℕ) → t < length run.ticks → is_valid_at run t ≡ true
