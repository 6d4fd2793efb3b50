-- Where the search for an assignment stands.
use Rattle.std.specs.Prelude.{◌≡◌, ℕ, ◌+◌, ◌<◌, ◌≤◌, Bool, true, false, Option, Some, None, List, length}
use Rattle.task_sheet.specs.SheetParts.{SheetParts}
use Rattle.task_sheet.specs.Sheets.{task_at}
use Rattle.task_sheet.specs.Priorities.{with_priority}
use Rattle.policy.specs.Policies.{fp_meaning}
use Rattle.preemption.specs.CutMeaning.{CutMeaning}
use Rattle.certificate.specs.declared.cert.Entry.{Entry}
use Rattle.conditions.specs.Meets.{TaskMeets}
use Rattle.solver.specs.Best.{IsEntryUpTo}
use Rattle.solver.specs.Bounds.{IsTaskBound, IsServedBy}
use Rattle.assign.specs.declared.assignment.Placed.{Placed}
use Rattle.assign.specs.Sheets.{level_in, sheet_in, IsGood}
use Rattle.assign.specs.Assignment.{is_placed, AreFilled, place_at, HavePlaces, IsStuck}

-- an entry with this bound, which is at most the deadline, serves the task
pub record IsGoodBound (m : CutMeaning) (sbf : ℕ → ℕ) (sheet : SheetParts) (horizon i bound : ℕ) : Type 0 where
  pub least : IsTaskBound fp_meaning m sbf sheet horizon i bound
  pub served : IsServedBy fp_meaning m sbf sheet horizon i bound
  pub in_time : bound ≤ (task_at sheet i).deadline

-- such a bound; None exactly where the task is not good
abbrev pub IsGoodBoundOrNone : CutMeaning → (ℕ → ℕ) → SheetParts → ℕ → ℕ → Option ℕ → Type 0
IsGoodBoundOrNone m sbf sheet horizon i None = IsGood m sbf sheet horizon i → ⊥
IsGoodBoundOrNone m sbf sheet horizon i (Some bound) = IsGoodBound m sbf sheet horizon i bound

-- the task is good with this priority, and keeps it; or it is not, and has the one from before
abbrev pub IsTried : CutMeaning → (ℕ → ℕ) → SheetParts → SheetParts → ℕ → ℕ → ℕ → Option ℕ → Type 0
IsTried m sbf old new i priority horizon None =
    (new ≡ with_priority (with_priority old i priority) i (task_at old i).priority) × (IsGood m sbf (with_priority old i priority) horizon i → ⊥)
IsTried m sbf old new i priority horizon (Some bound) = (new ≡ with_priority old i priority) × IsGoodBound m sbf new horizon i bound

-- a placed task has its level, and an entry with its bound is good in the sheet of all levels
pub record IsHeld (m : CutMeaning) (sbf : ℕ → ℕ) (sheet : SheetParts) (horizon : ℕ) (order : List ℕ) (i : ℕ) (place : Placed) : Type 0 where
  pub level : place.priority ≡ level_in (length sheet.tasks + 1) order i
  pub entry : Entry
  pub some : 1 ≤ length entry.points
  pub up_to : IsEntryUpTo horizon entry
  pub meets : TaskMeets fp_meaning m sbf (sheet_in sheet order) true i entry
  pub bound_is : entry.bound ≡ place.bound

-- the levels below this one are filled
pub record IsSoFar (m : CutMeaning) (sbf : ℕ → ℕ) (sheet : SheetParts) (horizon level : ℕ) (trial : SheetParts) (places : List Placed)
    (order : List ℕ) : Type 0 where
  pub filled : AreFilled m sbf sheet horizon order
  pub below : length order + 1 ≡ level
  pub trial_is : trial ≡ sheet_in sheet order
  pub count : length places ≡ length sheet.tasks
  pub placed : HavePlaces m sbf sheet horizon places order
  pub held : (i : ℕ) → i < length sheet.tasks → is_placed order i ≡ true → IsHeld m sbf sheet horizon order i (place_at places i)

-- the next level is filled; or no task may follow
abbrev pub IsFilledTo : CutMeaning → (ℕ → ℕ) → SheetParts → ℕ → ℕ → SheetParts → List Placed → Bool → Type 0
IsFilledTo m sbf sheet horizon level trial places true = (order : List ℕ) × IsSoFar m sbf sheet horizon (level + 1) trial places order
IsFilledTo m sbf sheet horizon level trial places false = IsStuck m sbf sheet horizon level
