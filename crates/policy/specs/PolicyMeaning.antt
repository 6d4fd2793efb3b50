use Rattle.std.specs.Prelude.{ℕ, Bool}
use Rattle.task_sheet.specs.SheetParts.{SheetParts}
use Rattle.task_sheet.specs.declared.tasks.Job.{Job}
use Rattle.policy.specs.declared.keys.Key.{Key}
use Rattle.policy.specs.declared.keys.Cap.{Cap}

-- what a policy means: how urgent a job is; which tasks o are in the class of task i; and for a job
-- of i that is released a ticks into its window, which jobs of o count and whether o may block or delay
pub record PolicyMeaning : Type 0 where
  pub key : SheetParts → Job → Key
  pub class : SheetParts → ℕ → ℕ → Bool
  pub cap : SheetParts → ℕ → ℕ → ℕ → Cap
  pub may_block : SheetParts → ℕ → ℕ → ℕ → Bool
  pub may_delay : SheetParts → ℕ → ℕ → Bool
