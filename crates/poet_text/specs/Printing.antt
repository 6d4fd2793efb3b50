-- What is printed of a certificate.
use Rattle.std.specs.Prelude.{ℕ, List, [], ◌∷◌, ◌++◌, Option, Some, None, codes, decimal, nat_le, if◌then◌else◌}
use Rattle.task_sheet.specs.declared.tasks.Task.{Task}
use Rattle.task_sheet.specs.SheetParts.{SheetParts}
use Rattle.task_sheet.specs.Sheets.{task_at}
use Rattle.conditions.specs.declared.failed.Cond.{Cond}
use Rattle.conditions.specs.declared.failed.Cond.TheVariants.{K1, K2, K3, K4, K5, K6, K7, K8, K9, K10}
use Rattle.conditions.specs.declared.failed.Failed.{Failed}
use Rattle.solver.specs.declared.analysis.Part.{Part}
use Rattle.solver.specs.declared.analysis.Part.TheVariants.{Window, Bound}

-- whether a deadline is met
abbrev pub met_word : ℕ → ℕ → List ℕ
met_word bound deadline = if nat_le bound deadline then codes " met\n" else codes " missed\n"

-- a word and a number
abbrev pub counted : List ℕ → ℕ → List ℕ
counted word n = word ++ decimal n

-- a word and a number, where there is one
abbrev pub named : List ℕ → Option ℕ → List ℕ
named word None = []
named word (Some n) = counted word n

-- task NAME, and two words, each with a number
unfoldable pub task_line : Task → List ℕ → ℕ → List ℕ → ℕ → List ℕ
task_line task first m second n =
    codes "task " ++ (task.name ++ (counted first m ++ (counted second n ++ codes "\n")))

-- task NAME bound R deadline D met
unfoldable pub bound_line : Task → ℕ → List ℕ
bound_line task bound =
    codes "task " ++ (task.name ++ (counted (codes " bound ") bound ++ (counted (codes " deadline ") task.deadline ++ met_word bound task.deadline)))

-- a line for each task and its bound
abbrev pub bounds_text : List Task → List ℕ → List ℕ
bounds_text [] bounds = []
bounds_text (task ∷ tasks) [] = []
bounds_text (task ∷ tasks) (bound ∷ bounds) = bound_line task bound ++ bounds_text tasks bounds

unfoldable pub accepted_text : SheetParts → List ℕ → List ℕ
accepted_text sheet bounds = codes "accepted\n" ++ bounds_text sheet.tasks bounds

abbrev pub cond_text : Cond → List ℕ
cond_text K1 = codes "refused K1"
cond_text K2 = codes "refused K2"
cond_text K3 = codes "refused K3"
cond_text K4 = codes "refused K4"
cond_text K5 = codes "refused K5"
cond_text K6 = codes "refused K6"
cond_text K7 = codes "refused K7"
cond_text K8 = codes "refused K8"
cond_text K9 = codes "refused K9"
cond_text K10 = codes "refused K10"

abbrev pub task_text : SheetParts → Option ℕ → List ℕ
task_text sheet None = []
task_text sheet (Some i) = codes " task " ++ (task_at sheet i).name

-- refused K6 task NAME point A
unfoldable pub refused_text : SheetParts → Failed → List ℕ
refused_text sheet failed = cond_text failed.cond ++ (task_text sheet failed.task ++ (named (codes " point ") failed.point ++ codes "\n"))

abbrev pub part_text : Part → List ℕ
part_text Window = codes " window\n"
part_text Bound = codes " bound\n"

-- no bound task NAME window
abbrev pub no_bound_text : List ℕ → Part → List ℕ
no_bound_text name part = codes "no bound task " ++ (name ++ part_text part)

-- no order at level P
unfoldable pub no_order_text : ℕ → List ℕ
no_order_text level = counted (codes "no order at level ") level ++ codes "\n"
