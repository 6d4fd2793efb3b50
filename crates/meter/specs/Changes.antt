use Rattle.std.specs.Prelude.{◌≡◌, ◌≢◌, ℕ, ◌<◌, ◌≤◌}
use Rattle.lists.specs.Limits.{greatest_number}
use Rattle.task_sheet.specs.SheetParts.{SheetParts}
use Rattle.policy.specs.PolicyMeaning.{PolicyMeaning}
use Rattle.policy.specs.Offsets.{compared_of}

-- at a later offset the number of task o is another
pub record IsChange (p : PolicyMeaning) (sheet : SheetParts) (i a o b : ℕ) : Type 0 where
  pub later : a < b
  pub differs : compared_of p sheet i b o ≢ compared_of p sheet i a o

-- the number of task o at an offset, and the least later offset with another, or one past them all
pub record IsCounted (p : PolicyMeaning) (sheet : SheetParts) (i a o count change : ℕ) : Type 0 where
  pub is : count ≡ compared_of p sheet i a o
  pub later : a < change
  pub same : (b : ℕ) → a ≤ b → b < change → b ≤ greatest_number → compared_of p sheet i b o ≡ count
  pub differs : change ≤ greatest_number → compared_of p sheet i change o ≢ count
