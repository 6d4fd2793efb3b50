use Rattle.std.specs.Prelude.{◌≡◌, ℕ, ◌-◌, ◌<◌, ◌≤◌, ◌==◌, ◌||◌, ◌⊎◌, Bool, true, false, not, length}
use Rattle.lists.specs.Firsts.{all_below}
use Rattle.task_sheet.specs.SheetParts.{SheetParts}
use Rattle.policy.specs.PolicyMeaning.{PolicyMeaning}
use Rattle.policy.specs.Offsets.{compared_of}

-- whether no number tells the offsets a and b apart
abbrev pub same_at : PolicyMeaning → SheetParts → ℕ → ℕ → ℕ → Bool
same_at p sheet i a b = all_below (λ o. compared_of p sheet i a o == compared_of p sheet i b o) (length sheet.tasks)

-- the offset 0, and those at which a number differs from the one at the offset before
unfoldable pub is_point : PolicyMeaning → SheetParts → ℕ → ℕ → Bool
is_point p sheet i a = (a == 0) || not (same_at p sheet i (a - 1) a)

-- a point greater than a
pub record IsPointAfter (p : PolicyMeaning) (sheet : SheetParts) (i a n : ℕ) : Type 0 where
  pub later : a < n
  pub point : is_point p sheet i n ≡ true

-- for the search: low is the same as a, and high is told apart from it, or is the end
pub record IsAround (p : PolicyMeaning) (sheet : SheetParts) (i a below low high : ℕ) : Type 0 where
  pub after : a ≤ low
  pub order : low < high
  pub within : high ≤ below
  pub same : same_at p sheet i a low ≡ true
  pub other : (high ≡ below) ⊎ (same_at p sheet i a high ≡ false)
