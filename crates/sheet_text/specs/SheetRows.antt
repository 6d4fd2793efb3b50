use Rattle.std.specs.Prelude.{ℕ, List, [], ◌∷◌, codes, Option, Some, None, Result, Ok, Err, if◌then◌else◌, bytes_eq}
use Rattle.lists.specs.Limits.{most_tasks}
use Rattle.toml.specs.Data.{Data, string, array, Items, get}
use Rattle.toml.specs.Text.{are_tables}
use Rattle.lists.specs.Ranges.{is_between}
use Rattle.task_sheet.specs.declared.tasks.PolicyKind.{PolicyKind}
use Rattle.task_sheet.specs.declared.tasks.PolicyKind.TheVariants.{Fp, Edf, Fifo, Gel, Elf}
use Rattle.task_sheet.specs.declared.refusal.Place.TheVariants as places
use Rattle.task_sheet.specs.declared.refusal.Field.TheVariants as fields
use Rattle.task_sheet.specs.declared.refusal.SheetRefusal.{SheetRefusal}
use Rattle.task_sheet.specs.declared.refusal.SheetRefusal.TheVariants.{Text, Kind, Range}
use Rattle.task_sheet.specs.SheetParts.{SheetParts}
use Rattle.task_sheet.specs.Words.{policy_word}
use Rattle.task_sheet.specs.Refusing.{◌>>=◌, holds, present}
use Rattle.sheet_text.specs.Documents.{document_of, keys_rule, needed_rule, items_count}
use Rattle.sheet_text.specs.SupplyRows.{supplied_rule}
use Rattle.sheet_text.specs.TaskRows.{tasks_after}

-- the keys of a sheet
abbrev pub sheet_keys : List (List ℕ)
sheet_keys = codes "policy" ∷ codes "supply" ∷ codes "task" ∷ []

-- the policy of a word
abbrev pub policy_named : List ℕ → Option PolicyKind
policy_named word =
    if bytes_eq word (policy_word Fp) then Some Fp
    else if bytes_eq word (policy_word Edf) then Some Edf
    else if bytes_eq word (policy_word Fifo) then Some Fifo
    else if bytes_eq word (policy_word Gel) then Some Gel
    else if bytes_eq word (policy_word Elf) then Some Elf
    else None

-- a policy is a word of these
abbrev pub policy_rule : Data → Result PolicyKind SheetRefusal
policy_rule (string word) = present (policy_named word) (Range places.Top fields.Policy)
policy_rule _ = Err (Kind places.Top fields.Policy)

-- 1 to 256 items, each a table
abbrev pub items_rule : Data → Result Items SheetRefusal
items_rule (array ds) =
    holds (are_tables ds) (Kind places.Top fields.Task)
    >>= (λ _. holds (is_between 1 most_tasks (items_count ds)) (Range places.Top fields.Task)
    >>= (λ _. Ok ds))
items_rule _ = Err (Kind places.Top fields.Task)

-- the sheet that a document says
unfoldable pub sheet_of : Data → Result SheetParts SheetRefusal
sheet_of d = do
  known ← keys_rule sheet_keys places.Top d
  named ← needed_rule (codes "policy") places.Top fields.Policy d
  its_policy ← policy_rule named
  its_supply ← supplied_rule (get (codes "supply") d)
  listed ← needed_rule (codes "task") places.Top fields.Task d
  items ← items_rule listed
  its_tasks ← tasks_after its_policy [] items
  Ok (record { policy = its_policy; supply = its_supply; tasks = its_tasks })

-- the sheet that a text says, or the first rule that it breaks
unfoldable pub sheet_of_text : List ℕ → Result SheetParts SheetRefusal
sheet_of_text bytes = present (document_of bytes) Text >>= sheet_of
