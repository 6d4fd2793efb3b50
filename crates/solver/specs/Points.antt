use Rattle.std.specs.Prelude.{◌≡◌, ℕ, zero, suc, ◌<◌, ◌≤◌, Bool, cond, Option, Some, None, List, [], ◌∷◌}
use Rattle.task_sheet.specs.SheetParts.{SheetParts}
use Rattle.policy.specs.PolicyMeaning.{PolicyMeaning}
use Rattle.search_space.specs.Points.{is_point}

-- those of the n numbers from `from` on that pass a test, rising
abbrev pub passing : (ℕ → Bool) → ℕ → ℕ → List ℕ
passing test from zero = []
passing test from (suc n) = cond (test from) (from ∷ passing test (suc from) n) (passing test (suc from) n)

-- the offsets of task i below a window that are points, rising
unfoldable pub points_below : PolicyMeaning → SheetParts → ℕ → ℕ → List ℕ
points_below p sheet i window = passing (is_point p sheet i) 0 window

-- how many there are; None exactly where there are more than the room
abbrev pub IsCount : ℕ → ℕ → Option ℕ → Type 0
IsCount n room None = room < n
IsCount n room (Some c) = (c ≡ n) × (c ≤ room)
