use Rattle.std.specs.Prelude.{ℕ}
use Rattle.task_sheet.specs.SheetParts.{SheetParts}
use Rattle.policy.specs.declared.keys.Cap.{Cap}
use Rattle.policy.specs.declared.keys.Cap.TheVariants.{Nothing, At, All}
use Rattle.policy.specs.Keys.{not_below_zero}
use Rattle.policy.specs.PolicyMeaning.{PolicyMeaning}

-- up to which length the cap admits arrivals, where it is a number; else 0
abbrev pub reach_of : Cap → ℕ
reach_of Nothing = 0
reach_of (At c) = not_below_zero c
reach_of All = 0

abbrev pub reach_at : PolicyMeaning → SheetParts → ℕ → ℕ → ℕ → ℕ
reach_at p sheet i o a = reach_of (p.cap sheet i o a)
