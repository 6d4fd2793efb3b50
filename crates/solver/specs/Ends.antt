-- Where the search for an end stands.
use Rattle.std.specs.Prelude.{◌≡◌, ℕ, ◌<◌, ◌≤◌, Option, Some, None, length}
use Rattle.task_sheet.specs.SheetParts.{SheetParts}
use Rattle.policy.specs.PolicyMeaning.{PolicyMeaning}
use Rattle.preemption.specs.CutMeaning.{CutMeaning}
use Rattle.demand.specs.Meeting.{MeetsEnd}
use Rattle.certificate.specs.declared.cert.Entry.{Entry}
use Rattle.solver.specs.Points.{points_below}
use Rattle.solver.specs.Best.{IsBestEntry}

-- no end before x meets K7
abbrev pub HasNoEndBefore : PolicyMeaning → CutMeaning → (ℕ → ℕ) → SheetParts → ℕ → ℕ → ℕ → Type 0
HasNoEndBefore p m sbf sheet i a x = (k : ℕ) → k < x → MeetsEnd p m sbf sheet i a k → ⊥

-- the best entry of task i for its window, which has no more points than there is room for
pub record IsBestWithin (p : PolicyMeaning) (m : CutMeaning) (sbf : ℕ → ℕ) (sheet : SheetParts) (i window room : ℕ) (e : Entry) : Type 0 where
  pub best : IsBestEntry p m sbf sheet i e
  pub is_for : e.window ≡ window
  pub few : length e.points ≤ room

-- that entry; None exactly where there are more points than room
abbrev pub IsEntryWithin : PolicyMeaning → CutMeaning → (ℕ → ℕ) → SheetParts → ℕ → ℕ → ℕ → Option Entry → Type 0
IsEntryWithin p m sbf sheet i window room None = room < length (points_below p sheet i window)
IsEntryWithin p m sbf sheet i window room (Some e) = IsBestWithin p m sbf sheet i window room e
