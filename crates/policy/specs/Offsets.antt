-- What a policy tells offsets of a task apart by.
use Rattle.std.specs.Prelude.{◌≡◌, ℕ, ◌+◌, ◌<◌, ◌==◌, cond, length}
use Rattle.curve.specs.CurveValue.{Curve}
use Rattle.curve.specs.Curves.{alpha_of}
use Rattle.task_sheet.specs.SheetParts.{SheetParts}
use Rattle.task_sheet.specs.Sheets.{task_at}
use Rattle.policy.specs.declared.keys.Cap.{Cap}
use Rattle.policy.specs.declared.keys.Cap.TheVariants.{Nothing, At, All}
use Rattle.policy.specs.Keys.{not_below_zero}
use Rattle.policy.specs.PolicyMeaning.{PolicyMeaning}

-- how many jobs of another task the cap admits at all, where it is a number
abbrev pub cap_count : Curve → Cap → ℕ
cap_count curve Nothing = 0
cap_count curve (At c) = alpha_of curve (not_below_zero c)
cap_count curve All = 0

-- the number of task o that tells offsets of task i apart
abbrev pub compared_of : PolicyMeaning → SheetParts → ℕ → ℕ → ℕ → ℕ
compared_of p sheet i a o = cond (o == i) (alpha_of (task_at sheet i).curve (a + 1 + (task_at sheet i).jitter))
    (cap_count (task_at sheet o).curve (p.cap sheet i o a))

-- no number tells the offsets a and b apart
abbrev pub IsSame : PolicyMeaning → SheetParts → ℕ → ℕ → ℕ → Type 0
IsSame p sheet i a b = (o : ℕ) → o < length sheet.tasks → compared_of p sheet i a o ≡ compared_of p sheet i b o
