-- Sheets under fixed priorities, and good tasks in them.
use Rattle.std.specs.Prelude.{◌≡◌, ℕ, suc, ◌+◌, ◌<◌, ◌≤◌, ◌==◌, true, cond, List, [], ◌∷◌, length}
use Rattle.task_sheet.specs.declared.tasks.PolicyKind.TheVariants.{Fp}
use Rattle.task_sheet.specs.declared.tasks.Task.{Task}
use Rattle.task_sheet.specs.SheetParts.{SheetParts}
use Rattle.task_sheet.specs.Sheets.{task_at}
use Rattle.task_sheet.specs.Priorities.{prioritized}
use Rattle.policy.specs.Policies.{fp_meaning}
use Rattle.preemption.specs.CutMeaning.{CutMeaning}
use Rattle.certificate.specs.declared.cert.Entry.{Entry}
use Rattle.conditions.specs.Meets.{TaskMeets}
use Rattle.solver.specs.Best.{IsEntryUpTo}

-- the tasks from number i on, with these priorities
abbrev pub tasks_by : (ℕ → ℕ) → ℕ → List Task → List Task
tasks_by priority i [] = []
tasks_by priority i (t ∷ ts) = prioritized t (priority i) ∷ tasks_by priority (suc i) ts

-- the sheet under fixed priorities, which are these
unfoldable pub sheet_by : SheetParts → (ℕ → ℕ) → SheetParts
sheet_by sheet priority = record { policy = Fp; supply = sheet.supply; tasks = tasks_by priority 0 sheet.tasks }

-- the level of each task where those of the list have levels, the last of them first, from 1 on; all others stand above
abbrev pub level_in : ℕ → List ℕ → ℕ → ℕ
level_in above [] o = above
level_in above (i ∷ before) o = cond (o == i) (length before + 1) (level_in above before o)

-- the sheet whose tasks have these levels, all others above the last level
abbrev pub sheet_in : SheetParts → List ℕ → SheetParts
sheet_in sheet placed = sheet_by sheet (level_in (length sheet.tasks + 1) placed)

-- the kind serves every task of the sheet, whatever its priority
abbrev pub ServesAny : CutMeaning → SheetParts → Type 0
ServesAny m sheet = (o p : ℕ) → o < length sheet.tasks → m.serves (prioritized (task_at sheet o) p) ≡ true

-- under fixed priorities the task meets its deadline: an entry with a point whose numbers are up to the horizon meets
-- the conditions
pub record IsGood (m : CutMeaning) (sbf : ℕ → ℕ) (sheet : SheetParts) (horizon i : ℕ) : Type 0 where
  pub entry : Entry
  pub some : 1 ≤ length entry.points
  pub up_to : IsEntryUpTo horizon entry
  pub meets : TaskMeets fp_meaning m sbf sheet true i entry

-- with these priorities every task is good
abbrev pub AreGood : CutMeaning → (ℕ → ℕ) → SheetParts → ℕ → (ℕ → ℕ) → Type 0
AreGood m sbf sheet horizon priority = (i : ℕ) → i < length sheet.tasks → IsGood m sbf (sheet_by sheet priority) horizon i
