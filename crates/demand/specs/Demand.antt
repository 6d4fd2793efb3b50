use Rattle.std.specs.Prelude.{ℕ, ◌+◌, ◌-◌, ◌*◌, ◌==◌, ◌&&◌, not, min, cond, length}
use Rattle.lists.specs.Sums.{sum_below, max_below}
use Rattle.curve.specs.CurveValue.{Curve}
use Rattle.curve.specs.Curves.{alpha_of}
use Rattle.task_sheet.specs.SheetParts.{SheetParts}
use Rattle.task_sheet.specs.Sheets.{task_at}
use Rattle.policy.specs.declared.keys.Cap.{Cap}
use Rattle.policy.specs.declared.keys.Cap.TheVariants.{Nothing, At, All}
use Rattle.policy.specs.Keys.{not_below_zero}
use Rattle.policy.specs.PolicyMeaning.{PolicyMeaning}
use Rattle.preemption.specs.CutMeaning.{CutMeaning}

-- how many jobs of the curve, with this jitter, may be released within x ticks and arrive within the cap
abbrev pub capped_count : Curve → ℕ → Cap → ℕ → ℕ
capped_count curve jitter Nothing x = 0
capped_count curve jitter (At c) x = alpha_of curve (min (x + jitter) (not_below_zero c))
capped_count curve jitter All x = alpha_of curve (x + jitter)

-- what is left of a job of task i once it is not cut any more
abbrev pub rest_of : CutMeaning → SheetParts → ℕ → ℕ
rest_of m sheet i = (task_at sheet i).cost - m.threshold (task_at sheet i)

-- the demand of task i itself, up to a job that is released at offset a, less that rest
unfoldable pub own_of : CutMeaning → SheetParts → ℕ → ℕ → ℕ
own_of m sheet i a = (task_at sheet i).cost * alpha_of (task_at sheet i).curve (a + 1 + (task_at sheet i).jitter) - rest_of m sheet i

-- the demand of one other task within x ticks
abbrev pub other_of : PolicyMeaning → SheetParts → ℕ → ℕ → ℕ → ℕ → ℕ
other_of p sheet i a x o = cond (o == i) 0 ((task_at sheet o).cost * capped_count (task_at sheet o).curve (task_at sheet o).jitter (p.cap sheet i o a) x)

-- the demand of the other tasks within x ticks
unfoldable pub others_of : PolicyMeaning → SheetParts → ℕ → ℕ → ℕ → ℕ
others_of p sheet i a x = sum_below (other_of p sheet i a x) (length sheet.tasks)

-- how long a segment of task o that began before the window can block at offset a
abbrev pub block_of : PolicyMeaning → CutMeaning → SheetParts → ℕ → ℕ → ℕ → ℕ
block_of p m sheet i a o = cond (not (o == i) && p.may_block sheet i o a) (m.longest (task_at sheet o) - 1) 0

-- the greatest such blocking
unfoldable pub blocking_of : PolicyMeaning → CutMeaning → SheetParts → ℕ → ℕ → ℕ
blocking_of p m sheet i a = max_below (block_of p m sheet i a) (length sheet.tasks)

-- the demand of a job of task i at offset a, within x ticks of the window's begin
unfoldable pub need_of : PolicyMeaning → CutMeaning → SheetParts → ℕ → ℕ → ℕ → ℕ
need_of p m sheet i a x = blocking_of p m sheet i a + own_of m sheet i a + others_of p sheet i a x

-- how long a segment of task o can delay the window of task i
abbrev pub delay_of : PolicyMeaning → CutMeaning → SheetParts → ℕ → ℕ → ℕ
delay_of p m sheet i o = cond (not (o == i) && p.may_delay sheet i o) (m.longest (task_at sheet o) - 1) 0

-- the demand of a task of the class within l ticks
abbrev pub class_part_of : PolicyMeaning → SheetParts → ℕ → ℕ → ℕ → ℕ
class_part_of p sheet i l o = cond (p.class sheet i o) ((task_at sheet o).cost * alpha_of (task_at sheet o).curve (l + (task_at sheet o).jitter)) 0

-- the demand of the whole class of task i within l ticks
unfoldable pub window_need_of : PolicyMeaning → CutMeaning → SheetParts → ℕ → ℕ → ℕ
window_need_of p m sheet i l = max_below (delay_of p m sheet i) (length sheet.tasks) + sum_below (class_part_of p sheet i l) (length sheet.tasks)
