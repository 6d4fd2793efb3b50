use Rattle.std.specs.Prelude.{ℕ, Bool}
use Rattle.task_sheet.specs.declared.tasks.Task.{Task}
use Rattle.task_sheet.specs.declared.tasks.Job.{Job}

-- what a kind of preemption means: where a job can be cut; the most service between two such places;
-- from which service on it is not cut any more; which jobs fit; and which tasks the kind serves
pub record CutMeaning : Type 0 where
  pub cuttable : Task → Job → ℕ → Bool
  pub longest : Task → ℕ
  pub threshold : Task → ℕ
  pub fits : Task → Job → Bool
  pub serves : Task → Bool
