use Rattle.std.specs.Prelude.{ℕ, ◌+◌, ◌<◌, ◌≤◌, length}
use Rattle.task_sheet.specs.SheetParts.{SheetParts}
use Rattle.task_sheet.specs.Sheets.{IsValidSheet}
use Rattle.policy.specs.PolicyMeaning.{PolicyMeaning}
use Rattle.policy.specs.Offsets.{IsSame}
use Rattle.preemption.specs.CutMeaning.{CutMeaning}
use Rattle.preemption.specs.CutLaws.{Serves}
use Rattle.demand.specs.Demand.{rest_of, need_of, window_need_of}

-- what a job that is released within l ticks needs by then, and the rest of it, its class asks for in l ticks
abbrev pub NeedFits : PolicyMeaning → CutMeaning → Type 0
NeedFits p m =
    (sheet : SheetParts) → IsValidSheet sheet → Serves m sheet → (i a l : ℕ) → i < length sheet.tasks → a < l →
    need_of p m sheet i a l + rest_of m sheet i ≤ window_need_of p m sheet i l

-- the demands of task i do not fall as the window grows
pub record IsRising (p : PolicyMeaning) (m : CutMeaning) (sheet : SheetParts) (i : ℕ) : Type 0 where
  pub need : (a x y : ℕ) → x ≤ y → need_of p m sheet i a x ≤ need_of p m sheet i a y
  pub window_need : (k l : ℕ) → k ≤ l → window_need_of p m sheet i k ≤ window_need_of p m sheet i l

abbrev pub DemandGrows : PolicyMeaning → CutMeaning → Type 0
DemandGrows p m = (sheet : SheetParts) → IsValidSheet sheet → (i : ℕ) → i < length sheet.tasks → IsRising p m sheet i

-- from an offset to a later one that no number tells apart the need does not rise
abbrev pub NeedFalls : PolicyMeaning → CutMeaning → Type 0
NeedFalls p m =
    (sheet : SheetParts) → IsValidSheet sheet → (i from a x : ℕ) → i < length sheet.tasks → from ≤ a → IsSame p sheet i from a →
    need_of p m sheet i a x ≤ need_of p m sheet i from x
