use Rattle.std.specs.Prelude.{◌≡◌, ℕ, ◌&&◌, ◌||◌, Bool, not, is_some, List, [], ◌∷◌, codes, Option, Some, None, Result, Ok, if◌then◌else◌}
use Rattle.toml.specs.Data.{Data, get}
use Rattle.task_sheet.specs.declared.tasks.SupplySpec.{SupplySpec}
use Rattle.task_sheet.specs.declared.tasks.SupplySpec.TheVariants.{Unit as Whole, Promised}
use Rattle.task_sheet.specs.declared.refusal.Place.TheVariants as places
use Rattle.task_sheet.specs.declared.refusal.Field.TheVariants as fields
use Rattle.task_sheet.specs.declared.refusal.SheetRefusal.{SheetRefusal}
use Rattle.task_sheet.specs.declared.refusal.SheetRefusal.TheVariants.{Kind, Mixed}
use Rattle.task_sheet.specs.Refusing.{◌>>=◌, holds, present}
use Rattle.task_sheet.specs.Rules.{supply_rule}
use Rattle.supply_table.specs.TableParts.{TableParts}
use Rattle.sheet_text.specs.Documents.{document_of, keys_rule, needed_rule, table_rule, positive_rule, number_of, all_in}
use Rattle.sheet_text.specs.TableRows.{cyclic_rule, implied_by}

-- the keys of a supply
abbrev pub supply_keys : List (List ℕ)
supply_keys = codes "horizon" ∷ codes "times" ∷ codes "cycle" ∷ codes "slots" ∷ []

-- something stands at a key
abbrev pub has_key : List ℕ → Data → Bool
has_key key d = is_some (get key d)

-- a key of a time table stands, or one of a promise
abbrev pub has_table : Data → Bool
has_table d = has_key (codes "cycle") d || has_key (codes "slots") d

abbrev pub has_promise : Data → Bool
has_promise d = has_key (codes "horizon") d || has_key (codes "times") d

-- not both stand
abbrev pub mixture_rule : Data → Result (Unit {0}) SheetRefusal
mixture_rule d = holds (not (has_table d && has_promise d)) Mixed

-- the times are an array of integers that are fit for a supply of this horizon
abbrev pub times_rule : ℕ → Data → Result SupplySpec SheetRefusal
times_rule horizon d =
    present (all_in number_of d) (Kind places.Supply fields.Times)
    >>= (λ times. supply_rule (Promised horizon times)
    >>= (λ _. Ok (Promised horizon times)))

-- a promise of supply: a horizon and times
unfoldable pub promised_rule : Data → Result SupplySpec SheetRefusal
promised_rule d = do
  horizon ← positive_rule (codes "horizon") places.Supply fields.Horizon d
  times ← needed_rule (codes "times") places.Supply fields.Times d
  times_rule horizon times

-- a time table, which means the promise that it implies
abbrev pub tabled_rule : Data → Result SupplySpec SheetRefusal
tabled_rule d = cyclic_rule d >>= (λ t. Ok (implied_by t))

-- a supply: a table of a time table or of a promise, and not of both
unfoldable pub given_rule : Data → Result SupplySpec SheetRefusal
given_rule d = do
  kind ← table_rule places.Top fields.Supply d
  known ← keys_rule supply_keys places.Supply d
  one ← mixture_rule d
  if has_table d then tabled_rule d else promised_rule d

-- where nothing is said, every tick is supplied
abbrev pub supplied_rule : Option Data → Result SupplySpec SheetRefusal
supplied_rule None = Ok Whole
supplied_rule (Some d) = given_rule d

-- the time table that bytes have in their supply
pub record HasTable (bytes : List ℕ) (table : TableParts) : Type 0 where
  pub document : Data
  pub is_document : document_of bytes ≡ Some document
  pub supply : Data
  pub is_supply : get (codes "supply") document ≡ Some supply
  pub is_table : cyclic_rule supply ≡ Ok table
