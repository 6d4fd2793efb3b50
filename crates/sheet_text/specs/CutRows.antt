use Rattle.std.specs.Prelude.{ℕ, List, [], ◌∷◌, codes, Option, Some, None, Result, Ok, Err, if◌then◌else◌, bytes_eq}
use Rattle.toml.specs.Data.{Data, string, table, get}
use Rattle.task_sheet.specs.declared.tasks.Cut.{Cut}
use Rattle.task_sheet.specs.declared.tasks.Cut.TheVariants.{Full, Never, Fixed, Floating}
use Rattle.task_sheet.specs.declared.refusal.Place.{Place}
use Rattle.task_sheet.specs.declared.refusal.Place.TheVariants as places
use Rattle.task_sheet.specs.declared.refusal.Field.TheVariants as fields
use Rattle.task_sheet.specs.declared.refusal.SheetRefusal.{SheetRefusal}
use Rattle.task_sheet.specs.declared.refusal.SheetRefusal.TheVariants.{Kind, Range}
use Rattle.task_sheet.specs.Refusing.{◌>>=◌, present}
use Rattle.task_sheet.specs.Rules.{cut_rule}
use Rattle.sheet_text.specs.Documents.{keys_rule, number_of, all_in}

-- preemption as a word
abbrev pub word_rule : Place → List ℕ → Result Cut SheetRefusal
word_rule place word =
    if bytes_eq word (codes "full") then Ok Full
    else if bytes_eq word (codes "never") then Ok Never
    else Err (Range place fields.Preemption)

-- the keys of preemption as a table
abbrev pub cut_keys : List (List ℕ)
cut_keys = codes "fixed" ∷ codes "floating" ∷ []

-- exactly one of fixed, an array of integers, and floating, an integer
abbrev pub parts_rule : Place → Option Data → Option Data → Result Cut SheetRefusal
parts_rule place (Some fixed) None = present (all_in number_of fixed) (Kind place fields.Preemption) >>= (λ segments. Ok (Fixed segments))
parts_rule place None (Some floating) = present (number_of floating) (Kind place fields.Preemption) >>= (λ longest. Ok (Floating longest))
parts_rule place _ _ = Err (Range place fields.Preemption)

-- preemption as a table, which has to fit the cost of task n
unfoldable pub segmented_rule : ℕ → ℕ → Data → Result Cut SheetRefusal
segmented_rule n cost d = do
  known ← keys_rule cut_keys (places.Task n) d
  cut ← parts_rule (places.Task n) (get (codes "fixed") d) (get (codes "floating") d)
  fits ← cut_rule n cost cut
  Ok cut

-- where nothing is said, a task is preempted at every tick
abbrev pub preemption_rule : ℕ → ℕ → Option Data → Result Cut SheetRefusal
preemption_rule n cost None = Ok Full
preemption_rule n cost (Some (string word)) = word_rule (places.Task n) word
preemption_rule n cost (Some (table ms)) = segmented_rule n cost (table ms)
preemption_rule n cost (Some _) = Err (Kind (places.Task n) fields.Preemption)
