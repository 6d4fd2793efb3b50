-- Lines below what is asked for as a window grows.
use Rattle.std.specs.Prelude.{ℕ, ◌+◌, ◌*◌, ◌^◌, ◌<◌, ◌≤◌}
use Rattle.lists.specs.Sums.{sum_below}
use Rattle.curve.specs.CurveValue.{Curve}
use Rattle.curve.specs.Curves.{alpha_of}
use Rattle.task_sheet.specs.declared.tasks.Task.{Task}
use Rattle.task_sheet.specs.SheetParts.{SheetParts}
use Rattle.policy.specs.PolicyMeaning.{PolicyMeaning}
use Rattle.preemption.specs.CutMeaning.{CutMeaning}
use Rattle.policy.specs.declared.keys.Cap.{Cap}
use Rattle.demand.specs.Demand.{capped_count, need_of, window_need_of}
use Rattle.solver.specs.declared.load.Line.{Line}

-- in how many parts of a tick lines count
abbrev pub scale : ℕ
scale = 68719476736

-- from before to now something has risen at least as the line has at l
abbrev pub HasRisen : Line → ℕ → ℕ → ℕ → Type 0
HasRisen line l before now = line.fixed + line.rate * l + before * scale ≤ now * scale + line.loss

-- below n and the horizon the curve lies at most so many jobs below the line that rises to its value at the horizon
abbrev pub IsBehind : Curve → ℕ → ℕ → Type 0
IsBehind c n lag = (r : ℕ) → r < n → r < c.horizon → alpha_of c c.horizon * r ≤ c.horizon * (alpha_of c r + lag)

abbrev pub whole_of : Task → ℕ → ℕ
whole_of task l = task.cost * alpha_of task.curve (l + task.jitter)

-- the line of all that a task asks for in windows from x on
abbrev pub IsUnderWhole : Task → ℕ → Line → Type 0
IsUnderWhole task x line = (l : ℕ) → x ≤ l → l ≤ line.cut → HasRisen line l (whole_of task x) (whole_of task l)

-- the same of those jobs of a task that arrive within the cap
abbrev pub IsUnderCapped : Task → Cap → ℕ → Line → Type 0
IsUnderCapped task cap x line =
    (l : ℕ) → x ≤ l → l ≤ line.cut →
    HasRisen line l (task.cost * capped_count task.curve task.jitter cap x) (task.cost * capped_count task.curve task.jitter cap l)

-- the same of what task o asks for
abbrev pub IsUnderAt : (ℕ → ℕ → ℕ) → ℕ → ℕ → Line → Type 0
IsUnderAt part o x line = (l : ℕ) → x ≤ l → l ≤ line.cut → HasRisen line l (part x o) (part l o)

-- and of what the tasks below n ask for together
abbrev pub IsUnderTo : (ℕ → ℕ → ℕ) → ℕ → ℕ → Line → Type 0
IsUnderTo part n x line = (l : ℕ) → x ≤ l → l ≤ line.cut → HasRisen line l (sum_below (part x) n) (sum_below (part l) n)

-- numbers that the lines of n tasks keep to
pub record IsSmallLine (n : ℕ) (line : Line) : Type 0 where
  pub fixed : line.fixed ≤ n * 2 ^ 116
  pub rate : line.rate ≤ n * 2 ^ 86
  pub loss : line.loss ≤ n * 2 ^ 118
  pub cut : line.cut ≤ 4000000000

-- up to the horizon no window before the bound is supplied what the line has risen to, from those that are wanted
abbrev pub IsBelowCrossing : (ℕ → ℕ) → Line → ℕ → ℕ → ℕ → Type 0
IsBelowCrossing sbf line wanted horizon bound = (l : ℕ) → l ≤ horizon → (l ≤ line.cut → HasRisen line l wanted (sbf l)) → bound ≤ l

-- of the windows from one on up to the horizon, none before the bound is supplied what the class asks for
abbrev pub IsBelowWindows : PolicyMeaning → CutMeaning → (ℕ → ℕ) → SheetParts → ℕ → ℕ → ℕ → ℕ → Type 0
IsBelowWindows p m sbf sheet i window horizon bound = (l : ℕ) → window ≤ l → l ≤ horizon → window_need_of p m sheet i l ≤ sbf l → bound ≤ l

-- the same of ends and what a job at offset a needs
abbrev pub IsBelowEnds : PolicyMeaning → CutMeaning → (ℕ → ℕ) → SheetParts → ℕ → ℕ → ℕ → ℕ → ℕ → Type 0
IsBelowEnds p m sbf sheet i a x limit bound = (l : ℕ) → x ≤ l → l ≤ limit → need_of p m sheet i a l ≤ sbf l → bound ≤ l
