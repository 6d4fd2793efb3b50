use Rattle.std.specs.Prelude.{Bool, true, false, Option, Some, None, Result, Ok, Err}
use Rattle.task_sheet.specs.declared.refusal.SheetRefusal.{SheetRefusal}

infixl 10 ◌>>=◌
-- the rule on the left, and if it passes the one on the right: the first refusal counts
abbrev pub ◌>>=◌ : {A B : Type 0} → Result A SheetRefusal → (A → Result B SheetRefusal) → Result B SheetRefusal
(Ok x) >>= f = f x
(Err e) >>= f = Err e

-- a test that has to hold
abbrev pub holds : Bool → SheetRefusal → Result (Unit {0}) SheetRefusal
holds true refusal = Ok tt
holds false refusal = Err refusal

-- a value that has to be there
abbrev pub present : {A : Type 0} → Option A → SheetRefusal → Result A SheetRefusal
present (Some x) refusal = Ok x
present None refusal = Err refusal
