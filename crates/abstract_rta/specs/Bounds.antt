-- the response-time theorem: from an end for every offset of the window, or from listed points, to the bound
use Rattle.std.specs.Prelude.{◌≡◌, ℕ, ◌<◌, ◌≤◌, None, List, length, slice_index_or}
use Rattle.task_sheet.specs.SheetParts.{SheetParts}
use Rattle.task_sheet.specs.Sheets.{IsValidSheet}
use Rattle.policy.specs.PolicyMeaning.{PolicyMeaning}
use Rattle.preemption.specs.CutMeaning.{CutMeaning}
use Rattle.preemption.specs.CutLaws.{Serves}
use Rattle.schedule_laws.specs.Bounded.{IsBounded}
use Rattle.demand.specs.Meeting.{CoversJitter, IsWindow, MeetsAt, PointsMeet}

-- the ends, one for each offset of the window, meet K6 to K8 there
abbrev pub EndsMeet : PolicyMeaning → CutMeaning → (ℕ → ℕ) → SheetParts → ℕ → ℕ → ℕ → List ℕ → Type 0
EndsMeet p m sbf sheet i window bound ends =
    (a : ℕ) → a < window → MeetsAt p m sbf sheet i bound a (slice_index_or ends a 0)

-- where a bound, a window and an end for each of its offsets meet the conditions, the bound holds in every compliant run
abbrev pub Bound : PolicyMeaning → CutMeaning → (ℕ → ℕ) → Type 0
Bound p m sbf =
    (sheet : SheetParts) → IsValidSheet sheet → Serves m sheet →
    (i window bound : ℕ) (ends : List ℕ) → i < length sheet.tasks →
    CoversJitter sheet i bound → IsWindow p m sbf sheet i window → EndsMeet p m sbf sheet i window bound ends →
    IsBounded p m sbf sheet i bound

-- the offset and the end of point k
abbrev pub point_at : List (ℕ × ℕ) → ℕ → ℕ × ℕ
point_at points k = slice_index_or points k (0, 0)

-- x is the end of the point whose offset is the greatest that is at most a
pub record IsEndFor (points : List (ℕ × ℕ)) (a x : ℕ) : Type 0 where
  pub point : ℕ
  pub listed : point < length points
  pub reached : (point_at points point).0 ≤ a
  pub greatest : (k : ℕ) → k < length points → (point_at points k).0 ≤ a →
      (point_at points k).0 ≤ (point_at points point).0
  pub end : (point_at points point).1 ≡ x

-- an end for each offset of the window: that of the greatest listed offset up to it
pub record HasEnds (p : PolicyMeaning) (m : CutMeaning) (sbf : ℕ → ℕ) (sheet : SheetParts) (i window bound : ℕ)
    (points : List (ℕ × ℕ)) : Type 0 where
  pub ends : List ℕ
  pub count : length ends ≡ window
  pub chosen : (a : ℕ) → a < window → IsEndFor points a (slice_index_or ends a 0)
  pub meets : EndsMeet p m sbf sheet i window bound ends

-- where the listed points meet the conditions, their ends serve at every offset of the window
abbrev pub FromPoints : PolicyMeaning → CutMeaning → (ℕ → ℕ) → Type 0
FromPoints p m sbf =
    (sheet : SheetParts) → IsValidSheet sheet → Serves m sheet →
    (i window bound : ℕ) (points : List (ℕ × ℕ)) → i < length sheet.tasks →
    1 ≤ length points → PointsMeet p m sbf sheet i window bound None points →
    HasEnds p m sbf sheet i window bound points

-- where a bound, a window and the listed points meet the conditions, the bound holds in every compliant run
abbrev pub PointsBound : PolicyMeaning → CutMeaning → (ℕ → ℕ) → Type 0
PointsBound p m sbf =
    (sheet : SheetParts) → IsValidSheet sheet → Serves m sheet →
    (i window bound : ℕ) (points : List (ℕ × ℕ)) → i < length sheet.tasks →
    CoversJitter sheet i bound → IsWindow p m sbf sheet i window →
    1 ≤ length points → PointsMeet p m sbf sheet i window bound None points → IsBounded p m sbf sheet i bound
