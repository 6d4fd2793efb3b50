use Rattle.std.specs.Prelude.{◌≡◌, ℕ, ◌-◌, ◌<◌, ◌≤◌, false, length}
use Rattle.task_sheet.specs.SheetParts.{SheetParts}
use Rattle.task_sheet.specs.Sheets.{IsValidSheet}
use Rattle.policy.specs.PolicyMeaning.{PolicyMeaning}
use Rattle.policy.specs.Offsets.{IsSame}
use Rattle.search_space.specs.Points.{is_point}

-- no number tells two offsets apart that have no point above the first up to the second
abbrev pub BetweenPoints : PolicyMeaning → Type 0
BetweenPoints p =
    (sheet : SheetParts) → IsValidSheet sheet → (i a b : ℕ) → i < length sheet.tasks → a ≤ b →
    ((n : ℕ) → a < n → n ≤ b → is_point p sheet i n ≡ false) → IsSame p sheet i a b

-- where the numbers at from and just before to are the same, so are those at every offset between
abbrev pub AcrossGap : PolicyMeaning → Type 0
AcrossGap p =
    (sheet : SheetParts) → IsValidSheet sheet → (i from at to : ℕ) → i < length sheet.tasks → from ≤ at → at < to →
    IsSame p sheet i from (to - 1) → IsSame p sheet i from at
