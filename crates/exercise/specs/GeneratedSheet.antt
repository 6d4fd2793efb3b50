-- The sheet that a seed makes.
use Rattle.std.specs.Prelude.{ℕ, pos, zero, suc, ◌+◌, ◌-◌, ◌*◌, ◌/◌, ◌%◌, ◌==◌, List, [], ◌∷◌, ◌++◌, cond, codes, decimal}
use Rattle.curve.specs.Curves.{periodic}
use Rattle.task_sheet.specs.declared.tasks.PolicyKind.TheVariants.{Edf}
use Rattle.task_sheet.specs.declared.tasks.SupplySpec.TheVariants.{Unit as Whole}
use Rattle.task_sheet.specs.declared.tasks.Cut.{Cut}
use Rattle.task_sheet.specs.declared.tasks.Cut.TheVariants.{Full, Never, Fixed, Floating}
use Rattle.task_sheet.specs.declared.tasks.Task.{Task}
use Rattle.task_sheet.specs.SheetParts.{SheetParts}
use Rattle.task_sheet.specs.Sheets.{parts_of}
use Rattle.simulated_run.specs.Words.{word, after}

-- the scale of task i, from 1 to 50, by its first word
unfoldable pub scale_of : ℕ → ℕ → ℕ
scale_of seed i = 1 + word (after (2 * i) seed) % 50

-- its cost, at most its scale, by its second word
unfoldable pub cost_of : ℕ → ℕ → ℕ
cost_of seed i = 1 + word (after (2 * i + 1) seed) % scale_of seed i

-- its period and deadline, among n tasks
unfoldable pub period_of : ℕ → ℕ → ℕ → ℕ
period_of seed n i = 2 * n * scale_of seed i

-- a cost in two segments, or in one where it is 1
abbrev pub halves : ℕ → List ℕ
halves cost = cond (cost == 1) (1 ∷ []) (cost / 2 ∷ (cost - cost / 2) ∷ [])

-- the four kinds of cuts take turns
abbrev pub cut_by : ℕ → ℕ → Cut
cut_by turn cost = cond (turn == 0) Full (cond (turn == 1) Never (cond (turn == 2) (Fixed (halves cost)) (Floating ((cost + 1) / 2))))

-- task i, with this period and this cost
abbrev pub task_by : ℕ → ℕ → ℕ → Task
task_by i period cost = record {
  name = codes "t" ++ decimal i;
  cost = cost;
  deadline = period;
  priority = 0;
  jitter = 0;
  point = pos 0;
  curve = periodic period;
  cut = cut_by (i % 4) cost;
}

-- task i of n
unfoldable pub generated_task : ℕ → ℕ → ℕ → Task
generated_task seed n i = task_by i (period_of seed n i) (cost_of seed i)

-- the first k of n tasks
abbrev pub first_tasks : ℕ → ℕ → ℕ → List Task
first_tasks seed n zero = []
first_tasks seed n (suc k) = first_tasks seed n k ++ generated_task seed n k ∷ []

-- the sheet of n tasks that this seed makes
unfoldable pub generated_sheet : ℕ → ℕ → SheetParts
generated_sheet seed n = parts_of Edf Whole (first_tasks seed n n)
