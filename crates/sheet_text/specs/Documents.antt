use Rattle.std.specs.Prelude.{ℕ, ℤ, pos, negsuc, ◌+◌, ◌&&◌, Bool, true, is_some, List, [], ◌∷◌, Option, Some, None, option_map, Result, Ok, Err}
use Rattle.std.specs.Prelude.{if◌then◌else◌, bytes_eq}
use Rattle.std.specs.Str.{is_utf8}
use Rattle.std.specs.List.{list_any}
use Rattle.lists.specs.Limits.{greatest_number}
use Rattle.toml.specs.Data.{Data, integer, array, table, Items, no_items, item, Members, no_members, member, get, as_integer, as_table}
use Rattle.toml.specs.Parse.{parse_document}
use Rattle.lists.specs.Ranges.{is_between}
use Rattle.task_sheet.specs.declared.refusal.Place.{Place}
use Rattle.task_sheet.specs.declared.refusal.Field.{Field}
use Rattle.task_sheet.specs.declared.refusal.SheetRefusal.{SheetRefusal}
use Rattle.task_sheet.specs.declared.refusal.SheetRefusal.TheVariants.{Unknown, Missing, Kind, Range}
use Rattle.task_sheet.specs.Refusing.{◌>>=◌, holds, present}

-- the document that bytes are; bytes that are no UTF-8 are none
abbrev pub document_of : List ℕ → Option Data
document_of bytes = if is_utf8 bytes then option_map table (parse_document bytes) else None

-- each key is one of these
abbrev pub has_only : List (List ℕ) → Members → Bool
has_only keys no_members = true
has_only keys (member k d ms) = list_any (λ known. bytes_eq known k) keys && has_only keys ms

-- where the data is a table, each key is one of these
abbrev pub knows_only : List (List ℕ) → Data → Bool
knows_only keys (table ms) = has_only keys ms
knows_only keys _ = true

-- a table has no keys but these
abbrev pub keys_rule : List (List ℕ) → Place → Data → Result (Unit {0}) SheetRefusal
keys_rule keys place d = holds (knows_only keys d) (Unknown place)

-- the value at a key, which has to be there
abbrev pub needed_rule : List ℕ → Place → Field → Data → Result Data SheetRefusal
needed_rule key place field d = present (get key d) (Missing place field)

-- what has to be a table
abbrev pub table_rule : Place → Field → Data → Result (Unit {0}) SheetRefusal
table_rule place field d = holds (is_some (as_table d)) (Kind place field)

-- an integer from low to high
abbrev pub whole_rule : Place → Field → ℕ → ℕ → Data → Result ℕ SheetRefusal
whole_rule place field low high (integer (pos n)) = if is_between low high n then Ok n else Err (Range place field)
whole_rule place field low high (integer (negsuc n)) = Err (Range place field)
whole_rule place field low high _ = Err (Kind place field)

-- a number from 1 to 10^9, which has to be there
abbrev pub positive_rule : List ℕ → Place → Field → Data → Result ℕ SheetRefusal
positive_rule key place field d = needed_rule key place field d >>= whole_rule place field 1 greatest_number

-- a negative integer as 0, which is in no range of these
abbrev pub natural : ℤ → ℕ
natural (pos n) = n
natural (negsuc n) = 0

-- an integer that is no less than 0; below 0 it is given as 0, where 0 is out of range as well
abbrev pub number_of : Data → Option ℕ
number_of d = option_map natural (as_integer d)

-- one more at the front, if each is there
abbrev pub put_first : {X : Type 0} → Option X → Option (List X) → Option (List X)
put_first (Some x) (Some xs) = Some (x ∷ xs)
put_first _ _ = None

-- what the items are, if each is something
abbrev pub all_of : {X : Type 0} → (Data → Option X) → Items → Option (List X)
all_of read no_items = Some []
all_of read (item d ds) = put_first (read d) (all_of read ds)

-- what the items of an array are, if each is something
abbrev pub all_in : {X : Type 0} → (Data → Option X) → Data → Option (List X)
all_in read (array ds) = all_of read ds
all_in read _ = None

-- how many items there are
abbrev pub items_count : Items → ℕ
items_count no_items = 0
items_count (item d ds) = 1 + items_count ds
