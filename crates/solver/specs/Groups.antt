-- Tasks that are looked at together, and how far they are below the lines that rise with their load.
use Rattle.std.specs.Prelude.{◌≡◌, ℕ, ◌+◌, ◌*◌, ◌/◌, ◌<◌, ◌≤◌, ◌==◌, ◌&&◌, not, Bool, true, false, cond, List, slice_index_or}
use Rattle.lists.specs.Sums.{sum_below}
use Rattle.curve.specs.Curves.{alpha_of}
use Rattle.task_sheet.specs.declared.tasks.Task.{Task}
use Rattle.task_sheet.specs.SheetParts.{SheetParts}
use Rattle.task_sheet.specs.Sheets.{task_at}
use Rattle.solver.specs.declared.load.Line.{Line}
use Rattle.solver.specs.Loads.{scale, whole_of}

-- whether a task is marked
abbrev pub is_in : List Bool → ℕ → Bool
is_in marks o = slice_index_or marks o false

-- how much the line of a task rises a tick, in parts of a tick
abbrev pub rate_of : Task → ℕ
rate_of t = t.cost * alpha_of t.curve t.curve.horizon * scale / t.curve.horizon

-- where the line of a marked task is at l, in parts of a tick
abbrev pub rise_in : SheetParts → List Bool → ℕ → ℕ → ℕ
rise_in sheet marks l o = cond (is_in marks o) (rate_of (task_at sheet o) * (l + (task_at sheet o).jitter)) 0

-- the ticks that a marked task asks for within l
abbrev pub asked_in : SheetParts → List Bool → ℕ → ℕ → ℕ
asked_in sheet marks l o = cond (is_in marks o) (whole_of (task_at sheet o) l) 0

-- and those that another task asks for
abbrev pub asked_out : (ℕ → ℕ → ℕ) → List Bool → ℕ → ℕ → ℕ
asked_out part marks l o = cond (is_in marks o) 0 (part l o)

-- up to windows of the cut all that a task asks for counts
abbrev pub CountsWhole : (ℕ → ℕ → ℕ) → SheetParts → ℕ → ℕ → Type 0
CountsWhole part sheet cut o = (l : ℕ) → l ≤ cut → part l o ≡ whole_of (task_at sheet o) l

-- so it is with the marked tasks below n
abbrev pub AreWhole : (ℕ → ℕ → ℕ) → SheetParts → ℕ → List Bool → ℕ → Type 0
AreWhole part sheet cut marks n = (o : ℕ) → o < n → is_in marks o ≡ true → CountsWhole part sheet cut o

-- of the tasks below n those of the group are the marked ones of one horizon
abbrev pub IsGroup : SheetParts → ℕ → List Bool → List Bool → ℕ → Type 0
IsGroup sheet common marks group n = (o : ℕ) → o < n → is_in group o ≡ ((task_at sheet o).curve.horizon == common && is_in marks o)

-- the marked tasks below n have this horizon
abbrev pub HaveHorizon : SheetParts → ℕ → List Bool → ℕ → Type 0
HaveHorizon sheet common marks n = (o : ℕ) → o < n → is_in marks o ≡ true → (task_at sheet o).curve.horizon ≡ common

-- and the others are the marked ones of other horizons
abbrev pub IsRest : SheetParts → ℕ → List Bool → List Bool → ℕ → Type 0
IsRest sheet common marks rest n = (o : ℕ) → o < n → is_in rest o ≡ (not ((task_at sheet o).curve.horizon == common) && is_in marks o)

-- at l the marked tasks below n ask together for at most so many ticks less than their lines say
abbrev pub IsBehindAt : SheetParts → List Bool → ℕ → ℕ → ℕ → Type 0
IsBehindAt sheet marks n lag l = sum_below (rise_in sheet marks l) n ≤ (sum_below (asked_in sheet marks l) n + lag) * scale

-- so it is everywhere
abbrev pub IsBehindTogether : SheetParts → List Bool → ℕ → ℕ → Type 0
IsBehindTogether sheet marks n lag = (l : ℕ) → IsBehindAt sheet marks n lag l

-- so it is below a length
abbrev pub IsBehindBelow : SheetParts → List Bool → ℕ → ℕ → ℕ → Type 0
IsBehindBelow sheet marks n below lag = (l : ℕ) → l < below → IsBehindAt sheet marks n lag l

-- so it is with the marked tasks that are not left
abbrev pub IsBehindBut : SheetParts → List Bool → List Bool → ℕ → ℕ → Type 0
IsBehindBut sheet marks left n lag =
    (l : ℕ) →
    sum_below (rise_in sheet marks l) n + sum_below (asked_in sheet left l) n * scale ≤
    sum_below (rise_in sheet left l) n + (sum_below (asked_in sheet marks l) n + lag) * scale

-- the lines of the marked tasks below n rise together by this rate
abbrev pub RisesBy : SheetParts → List Bool → ℕ → ℕ → ℕ → Type 0
RisesBy sheet marks n fixed rate = (l : ℕ) → sum_below (rise_in sheet marks l) n ≡ rate * l + fixed

-- from d up to a later length they ask for so much
abbrev pub AskSo : SheetParts → List Bool → ℕ → ℕ → ℕ → ℕ → Type 0
AskSo sheet marks n d until asked = (l : ℕ) → d ≤ l → l < until → sum_below (asked_in sheet marks l) n ≡ asked

-- from before on, what tasks ask for that are not marked, and the lines of those that are, have risen at least as this line has at l
abbrev pub HasRisenBeside : Line → ℕ → ℕ → ℕ → ℕ → Type 0
HasRisenBeside line l before out rise = line.fixed + line.rate * l + before * scale ≤ out * scale + line.loss + rise

-- so it is with task o
abbrev pub IsBesideAt : (ℕ → ℕ → ℕ) → SheetParts → List Bool → ℕ → ℕ → ℕ → Line → Type 0
IsBesideAt part sheet marks cut o x line =
    (l : ℕ) → x ≤ l → l ≤ line.cut → l ≤ cut → HasRisenBeside line l (part x o) (asked_out part marks l o) (rise_in sheet marks l o)

-- and with the tasks below n together
abbrev pub IsBesideTo : (ℕ → ℕ → ℕ) → SheetParts → List Bool → ℕ → ℕ → ℕ → Line → Type 0
IsBesideTo part sheet marks cut n x line =
    (l : ℕ) → x ≤ l → l ≤ line.cut → l ≤ cut →
    HasRisenBeside line l (sum_below (part x) n) (sum_below (asked_out part marks l) n) (sum_below (rise_in sheet marks l) n)

-- the line of a task with no lag, from x on
pub record IsBare (task : Task) (x : ℕ) (line : Line) : Type 0 where
  pub rate : line.rate ≡ rate_of task
  pub fixed : line.fixed ≡ line.rate * task.jitter
  pub loss : line.loss ≡ whole_of task x * scale

-- a line that is held so much further below
abbrev pub lowered : Line → ℕ → Line
lowered line lag = record { fixed = line.fixed; rate = line.rate; loss = line.loss + lag * scale; cut = line.cut }
