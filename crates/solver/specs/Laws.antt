use Rattle.std.specs.Prelude.{ℕ, ◌+◌, ◌-◌, ◌<◌, ◌≤◌, length}
use Rattle.task_sheet.specs.SheetParts.{SheetParts}
use Rattle.task_sheet.specs.Sheets.{IsValidSheet}
use Rattle.policy.specs.PolicyMeaning.{PolicyMeaning}
use Rattle.policy.specs.Offsets.{IsSame}
use Rattle.preemption.specs.CutMeaning.{CutMeaning}
use Rattle.demand.specs.Demand.{rest_of, blocking_of, need_of, window_need_of}

-- all that the search for least numbers rests on
pub record Laws (p : PolicyMeaning) (m : CutMeaning) (sbf : ℕ → ℕ) (sheet : SheetParts) : Type 0 where
  pub valid : IsValidSheet sheet
  -- supply and demand do not fall as a window grows
  pub rises : (d : ℕ) → sbf d ≤ sbf (d + 1)
  -- and no window is supplied more ticks than it has
  pub within : (d : ℕ) → sbf d ≤ d
  pub need_grows : (i a x y : ℕ) → i < length sheet.tasks → x ≤ y → need_of p m sheet i a x ≤ need_of p m sheet i a y
  pub window_grows : (i k l : ℕ) → i < length sheet.tasks → k ≤ l → window_need_of p m sheet i k ≤ window_need_of p m sheet i l
  -- what a job needs and the rest of it fit into the demand of its class
  pub need_fits : (i a l : ℕ) → i < length sheet.tasks → a < l → need_of p m sheet i a l + rest_of m sheet i ≤ window_need_of p m sheet i l
  -- at an offset from which no number tells a later one apart, as much is needed as at each between them
  pub across_gap : (i from to a x : ℕ) → i < length sheet.tasks → from ≤ a → a < to → IsSame p sheet i from (to - 1) →
      need_of p m sheet i a x ≤ need_of p m sheet i from x

-- from an offset to a later one at which as much blocks the need does not fall
abbrev pub NeedRises : PolicyMeaning → CutMeaning → Type 0
NeedRises p m =
    (sheet : SheetParts) → IsValidSheet sheet → (i from a x : ℕ) → i < length sheet.tasks → from ≤ a →
    blocking_of p m sheet i from ≤ blocking_of p m sheet i a → need_of p m sheet i from x ≤ need_of p m sheet i a x
