-- The least bound of one task.
use Rattle.std.specs.Prelude.{◌≡◌, ℕ, ◌<◌, ◌≤◌, false, cond, nat_le, Option, Some, None, length}
use Rattle.task_sheet.specs.SheetParts.{SheetParts}
use Rattle.task_sheet.specs.Sheets.{IsValidSheet}
use Rattle.policy.specs.PolicyMeaning.{PolicyMeaning}
use Rattle.preemption.specs.CutMeaning.{CutMeaning}
use Rattle.preemption.specs.CutLaws.{Serves}
use Rattle.certificate.specs.declared.cert.Entry.{Entry}
use Rattle.conditions.specs.Conditions.{is_window}
use Rattle.conditions.specs.Meets.{TaskMeets}
use Rattle.solver.specs.Best.{IsBestEntry, IsBestUpTo, IsEntryUpTo}
use Rattle.solver.specs.Outcome.{least_to, best_of_window}

-- the bound of the best entry of task i for this window
pub record IsBoundBelow (p : PolicyMeaning) (m : CutMeaning) (sbf : ℕ → ℕ) (sheet : SheetParts) (i window bound : ℕ) : Type 0 where
  pub entry : Entry
  pub best : IsBestEntry p m sbf sheet i entry
  pub window_is : entry.window ≡ window
  pub bound_is : entry.bound ≡ bound

-- no entry with a point that meets the conditions but that on the deadline has a bound up to the limit
abbrev pub AreBoundsAbove : PolicyMeaning → CutMeaning → (ℕ → ℕ) → SheetParts → ℕ → ℕ → Type 0
AreBoundsAbove p m sbf sheet i limit = (e : Entry) → 1 ≤ length e.points → TaskMeets p m sbf sheet false i e → limit < e.bound

-- the bound of the best entry for this window, or that all are above the limit
abbrev pub IsBelowOrAbove : PolicyMeaning → CutMeaning → (ℕ → ℕ) → SheetParts → ℕ → ℕ → ℕ → Option ℕ → Type 0
IsBelowOrAbove p m sbf sheet i window limit None = AreBoundsAbove p m sbf sheet i limit
IsBelowOrAbove p m sbf sheet i window limit (Some bound) = IsBoundBelow p m sbf sheet i window bound

-- an entry with a point that meets the conditions but that on the deadline, with numbers up to the horizon
pub record ServesTask (p : PolicyMeaning) (m : CutMeaning) (sbf : ℕ → ℕ) (sheet : SheetParts) (horizon i : ℕ) (e : Entry) : Type 0 where
  pub some : 1 ≤ length e.points
  pub up_to : IsEntryUpTo horizon e
  pub meets : TaskMeets p m sbf sheet false i e

-- the bound of the best entry of task i, whose window and bound are up to the horizon
pub record IsTaskBound (p : PolicyMeaning) (m : CutMeaning) (sbf : ℕ → ℕ) (sheet : SheetParts) (horizon i bound : ℕ) : Type 0 where
  pub entry : Entry
  pub best : IsBestUpTo p m sbf sheet horizon i entry
  pub bound_is : entry.bound ≡ bound

-- the least bound of task i; None exactly where no entry serves it
abbrev pub IsLeastBound : PolicyMeaning → CutMeaning → (ℕ → ℕ) → SheetParts → ℕ → ℕ → Option ℕ → Type 0
IsLeastBound p m sbf sheet horizon i None = (e : Entry) → ServesTask p m sbf sheet horizon i e → ⊥
IsLeastBound p m sbf sheet horizon i (Some bound) = IsTaskBound p m sbf sheet horizon i bound

-- the least bound of task i, where it is at most the limit; None exactly where no entry with such a bound serves it
abbrev pub IsBoundWithin : PolicyMeaning → CutMeaning → (ℕ → ℕ) → SheetParts → ℕ → ℕ → ℕ → Option ℕ → Type 0
IsBoundWithin p m sbf sheet horizon limit i None = (e : Entry) → ServesTask p m sbf sheet horizon i e → e.bound ≤ limit → ⊥
IsBoundWithin p m sbf sheet horizon limit i (Some bound) = IsTaskBound p m sbf sheet horizon i bound × (bound ≤ limit)

-- an entry with this bound serves the task, and none with a smaller one
pub record IsServedBy (p : PolicyMeaning) (m : CutMeaning) (sbf : ℕ → ℕ) (sheet : SheetParts) (horizon i bound : ℕ) : Type 0 where
  pub entry : Entry
  pub serves : ServesTask p m sbf sheet horizon i entry
  pub bound_is : entry.bound ≡ bound
  pub least : (e : Entry) → ServesTask p m sbf sheet horizon i e → bound ≤ e.bound

-- the bound of an entry, where it is up to the horizon
abbrev pub bound_up_to : ℕ → Entry → Option ℕ
bound_up_to horizon e = cond (nat_le e.bound horizon) (Some e.bound) None

abbrev pub bound_for : PolicyMeaning → CutMeaning → (ℕ → ℕ) → SheetParts → ℕ → ℕ → Option ℕ → Option ℕ
bound_for p m sbf sheet horizon i None = None
bound_for p m sbf sheet horizon i (Some window) = bound_up_to horizon (best_of_window p m sbf sheet i window)

-- the least bound of a task as a function
unfoldable pub bound_of : PolicyMeaning → CutMeaning → (ℕ → ℕ) → SheetParts → ℕ → ℕ → Option ℕ
bound_of p m sbf sheet horizon i = bound_for p m sbf sheet horizon i (least_to (is_window p m sbf sheet i) horizon)

-- of a task of a valid sheet: the function gives the least bound, there is no other, and it serves the task
pub record HasOneBound (p : PolicyMeaning) (m : CutMeaning) (sbf : ℕ → ℕ) (sheet : SheetParts) (horizon i : ℕ) : Type 0 where
  pub exists : IsLeastBound p m sbf sheet horizon i (bound_of p m sbf sheet horizon i)
  pub single : (a b : Option ℕ) → IsLeastBound p m sbf sheet horizon i a → IsLeastBound p m sbf sheet horizon i b → a ≡ b
  pub serves : (bound : ℕ) → IsTaskBound p m sbf sheet horizon i bound → IsServedBy p m sbf sheet horizon i bound

abbrev pub TasksHaveOneBound : PolicyMeaning → CutMeaning → (ℕ → ℕ) → Type 0
TasksHaveOneBound p m sbf =
    (sheet : SheetParts) → IsValidSheet sheet → Serves m sheet → (horizon i : ℕ) → i < length sheet.tasks → HasOneBound p m sbf sheet horizon i
