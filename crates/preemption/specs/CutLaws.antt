-- what a kind of preemption promises: the laws that a bound rests on, and the law of the kinds that the sheet's table lists
use Rattle.std.specs.Prelude.{◌≡◌, ℕ, ◌+◌, ◌<◌, ◌≤◌, true, false, length}
use Rattle.task_sheet.specs.declared.tasks.Task.{Task}
use Rattle.task_sheet.specs.declared.tasks.Job.{Job}
use Rattle.task_sheet.specs.SheetParts.{SheetParts}
use Rattle.task_sheet.specs.Sheets.{task_at}
use Rattle.preemption.specs.CutMeaning.{CutMeaning}
use Rattle.preemption.specs.Cuts.{is_cuttable, longest_of, threshold_of, fits}

-- a job that can be cut at service s can be cut again at most a longest non-preemptive segment later
pub record HasNextCut (m : CutMeaning) (task : Task) (j : Job) (s : ℕ) : Type 0 where
  pub at : ℕ
  pub later : s < at
  pub near : at ≤ s + m.longest task
  pub cut : m.cuttable task j at ≡ true

-- what soundness asks of a kind of preemption, for a task that it serves
pub record IsLawfulCut (m : CutMeaning) (task : Task) : Type 0 where
  -- the longest non-preemptive segment and the run-to-completion threshold lie in 1..C
  pub longest_positive : 1 ≤ m.longest task
  pub longest_bound : m.longest task ≤ task.cost
  pub threshold_positive : 1 ≤ m.threshold task
  pub threshold_bound : m.threshold task ≤ task.cost
  -- a job that fits its task has a cost in 1..C
  pub cost_positive : (j : Job) → m.fits task j ≡ true → 1 ≤ j.cost
  pub cost_bound : (j : Job) → m.fits task j ≡ true → j.cost ≤ task.cost
  -- it can be cut before it begins, and once it is done
  pub cut_first : (j : Job) → m.fits task j ≡ true → m.cuttable task j 0 ≡ true
  pub cut_last : (j : Job) (s : ℕ) → m.fits task j ≡ true → j.cost ≤ s → m.cuttable task j s ≡ true
  -- no segment between two cuts is longer than the longest
  pub cut_next : (j : Job) (s : ℕ) → m.fits task j ≡ true → m.cuttable task j s ≡ true → s < j.cost → HasNextCut m task j s
  -- with the threshold of service it is not cut any more before it is done
  pub last_part : (j : Job) (s : ℕ) → m.fits task j ≡ true → m.threshold task ≤ s → s < j.cost → m.cuttable task j s ≡ false

-- a kind of the table: it says of the task what the table says of the task's own cut
pub record IsTabledCut (m : CutMeaning) (task : Task) : Type 0 where
  pub same_cuts : (j : Job) (s : ℕ) → m.cuttable task j s ≡ is_cuttable task j s
  pub same_longest : m.longest task ≡ longest_of task
  pub same_threshold : m.threshold task ≡ threshold_of task
  pub same_fits : (j : Job) → m.fits task j ≡ fits task j

-- the kind serves every task of the sheet
abbrev pub Serves : CutMeaning → SheetParts → Type 0
Serves m sheet = (o : ℕ) → o < length sheet.tasks → m.serves (task_at sheet o) ≡ true
