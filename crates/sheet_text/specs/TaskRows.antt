use Rattle.std.specs.Prelude.{ℕ, ℤ, pos, not, List, [], ◌∷◌, ◌++◌, map, length, codes, Option, Some, None, Result, Ok, Err, if◌then◌else◌, bytes_eq}
use Rattle.std.specs.List.{list_any}
use Rattle.lists.specs.Limits.{greatest_number}
use Rattle.toml.specs.Data.{Data, string, integer, Items, no_items, item, get}
use Rattle.task_sheet.specs.declared.tasks.PolicyKind.{PolicyKind}
use Rattle.task_sheet.specs.declared.tasks.PolicyKind.TheVariants.{Fp, Edf, Fifo, Gel, Elf}
use Rattle.task_sheet.specs.declared.tasks.Task.{Task}
use Rattle.task_sheet.specs.declared.refusal.Place.{Place}
use Rattle.task_sheet.specs.declared.refusal.Place.TheVariants as places
use Rattle.task_sheet.specs.declared.refusal.Field.TheVariants as fields
use Rattle.task_sheet.specs.declared.refusal.SheetRefusal.{SheetRefusal}
use Rattle.task_sheet.specs.declared.refusal.SheetRefusal.TheVariants.{Missing, Kind, Range, Twice}
use Rattle.task_sheet.specs.Refusing.{◌>>=◌, holds}
use Rattle.task_sheet.specs.Rules.{is_name, is_priority_point, most_jitter}
use Rattle.sheet_text.specs.declared.tasks.TaskNumbers.{TaskNumbers}
use Rattle.sheet_text.specs.Documents.{keys_rule, needed_rule, whole_rule, positive_rule}
use Rattle.sheet_text.specs.CurveRows.{arrivals_rule}
use Rattle.sheet_text.specs.CutRows.{preemption_rule}

-- the keys of a task
abbrev pub task_keys : List (List ℕ)
task_keys = codes "name" ∷ codes "cost" ∷ codes "deadline" ∷ codes "priority" ∷ codes "jitter" ∷ codes "point" ∷ codes "period" ∷
    codes "curve" ∷ codes "preemption" ∷ []

-- a name that no task before has
unfoldable pub name_rule : ℕ → List (List ℕ) → Data → Result (List ℕ) SheetRefusal
name_rule n names (string s) =
    holds (is_name s) (Range (places.Task n) fields.Name)
    >>= (λ _. holds (not (list_any (bytes_eq s) names)) (Twice n)
    >>= (λ _. Ok s))
name_rule n names _ = Err (Kind (places.Task n) fields.Name)

-- only under policies by priority has a task to say it
abbrev pub unsaid_priority : PolicyKind → Place → Result ℕ SheetRefusal
unsaid_priority Fp place = Err (Missing place fields.Priority)
unsaid_priority Edf place = Ok 0
unsaid_priority Fifo place = Ok 0
unsaid_priority Gel place = Ok 0
unsaid_priority Elf place = Err (Missing place fields.Priority)

-- a priority, where 0 is one, or none
abbrev pub priority_rule : PolicyKind → Place → Option Data → Result ℕ SheetRefusal
priority_rule policy place (Some d) = whole_rule place fields.Priority 0 greatest_number d
priority_rule policy place None = unsaid_priority policy place

-- a jitter, which is 0 where nothing is said
abbrev pub jitter_rule : Place → Option Data → Result ℕ SheetRefusal
jitter_rule place (Some d) = whole_rule place fields.Jitter 0 most_jitter d
jitter_rule place None = Ok 0

-- an integer that a priority point may be
abbrev pub said_point : Place → Data → Result ℤ SheetRefusal
said_point place (integer q) = if is_priority_point q then Ok q else Err (Range place fields.Point)
said_point place _ = Err (Kind place fields.Point)

-- a priority point, which is 0 where nothing is said
abbrev pub point_rule : Place → Option Data → Result ℤ SheetRefusal
point_rule place (Some d) = said_point place d
point_rule place None = Ok (pos 0)

-- the numbers of a task
unfoldable pub numbers_rule : PolicyKind → Place → Data → Result TaskNumbers SheetRefusal
numbers_rule policy place d = do
  its_cost ← positive_rule (codes "cost") place fields.Cost d
  its_deadline ← positive_rule (codes "deadline") place fields.Deadline d
  its_priority ← priority_rule policy place (get (codes "priority") d)
  its_jitter ← jitter_rule place (get (codes "jitter") d)
  its_point ← point_rule place (get (codes "point") d)
  Ok (record { cost = its_cost; deadline = its_deadline; priority = its_priority; jitter = its_jitter; point = its_point })

-- task n, after tasks of these names
unfoldable pub task_of : PolicyKind → ℕ → List (List ℕ) → Data → Result Task SheetRefusal
task_of policy n names d = do
  known ← keys_rule task_keys (places.Task n) d
  named ← needed_rule (codes "name") (places.Task n) fields.Name d
  its_name ← name_rule n names named
  numbers ← numbers_rule policy (places.Task n) d
  its_curve ← arrivals_rule n (get (codes "period") d) (get (codes "curve") d)
  its_cut ← preemption_rule n numbers.cost (get (codes "preemption") d)
  Ok (record {
    name = its_name;
    cost = numbers.cost;
    deadline = numbers.deadline;
    priority = numbers.priority;
    jitter =
        numbers.jitter;
    point = numbers.point;
    curve = its_curve;
    cut = its_cut;
  })

-- the names of some tasks
abbrev pub names_of : List Task → List (List ℕ)
names_of tasks = map (λ t. t.name) tasks

-- the tasks of these items, after those that are done
unfoldable pub tasks_after : PolicyKind → List Task → Items → Result (List Task) SheetRefusal
tasks_after policy done no_items = Ok done
tasks_after policy done (item d ds) = task_of policy (length done) (names_of done) d >>= (λ t. tasks_after policy (done ++ t ∷ []) ds)
