use Rattle.std.specs.Prelude.{◌≡◌, ℕ, ◌-◌, ◌<◌, ◌≤◌, List, length, slice_index_or}
use Rattle.lists.specs.Limits.{greatest_number}
use Rattle.task_sheet.specs.SheetParts.{SheetParts}
use Rattle.task_sheet.specs.Sheets.{task_at}
use Rattle.policy.specs.PolicyMeaning.{PolicyMeaning}
use Rattle.preemption.specs.CutMeaning.{CutMeaning}
use Rattle.demand.specs.Demand.{blocking_of}
use Rattle.meter.specs.declared.blockers.Blocker.{Blocker}

-- what is left of the task's longest segment once it has begun
pub record IsLeft (m : CutMeaning) (sheet : SheetParts) (o left : ℕ) : Type 0 where
  pub is : left ≡ m.longest (task_at sheet o) - 1
  pub high : left ≤ greatest_number

pub record AreBegun (m : CutMeaning) (sheet : SheetParts) (begun : List ℕ) : Type 0 where
  pub count : length begun ≡ length sheet.tasks
  pub each : (o : ℕ) → o < length sheet.tasks → IsLeft m sheet o (slice_index_or begun o 0)

-- a task of the sheet, and the longest blocking at the offset
pub record IsBlocker (p : PolicyMeaning) (m : CutMeaning) (sheet : SheetParts) (i a : ℕ) (b : Blocker) : Type 0 where
  pub in_range : b.task < length sheet.tasks
  pub greatest : b.block ≡ blocking_of p m sheet i a
  pub high : b.block ≤ greatest_number
