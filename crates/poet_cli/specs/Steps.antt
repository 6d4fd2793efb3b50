-- The steps of a command, and what each gives.
use Rattle.std.specs.Prelude.{◌≡◌, ℕ, List, Result, Ok, Err}
use Rattle.task_sheet.specs.SheetParts.{SheetParts}
use Rattle.poet_text.specs.declared.refusal.Source.{Source}
use Rattle.poet_text.specs.declared.refusal.Source.TheVariants as source
use Rattle.poet_text.specs.declared.refusal.Refusal.{Refusal}
use Rattle.poet_text.specs.declared.refusal.Refusal.TheVariants.{Usage, Read, Memory}
use Rattle.poet_text.specs.Endings.{Ending}
use Rattle.poet_cli.specs.Readings.{ShelfAt, IsFileReading}
use Rattle.poet_cli.specs.Answers.{sheet_by}

-- what a step that reads no file gives, where its answer is this: the answer, or want of memory
abbrev pub Gives : {A : Type 0} → Result A Refusal → Result A Refusal → Type 0
Gives answer (Ok a) = answer ≡ Ok a
Gives answer (Err Usage) = ⊥
Gives answer (Err (Read which)) = ⊥
Gives answer (Err Memory) = Unit {0}
Gives answer (Err refusal) = answer ≡ Err refusal

-- what comes after a step: this, unless it was refused
abbrev pub After : {A B : Type 0} → (A → Result B Refusal → Type 0) → Result A Refusal →
    Result B Refusal → Type 0
After Ends (Ok a) result = Ends a result
After Ends (Err refusal) result = result ≡ Err refusal

-- one reading of a file, and this of its bytes
pub record Reads {A : Type 0} (which : Source) (name : List ℕ)
    (Ends : List ℕ → Result A Refusal → Type 0) (before now : ShelfAt) (result : Result A Refusal)
    : Type 0 where
  pub gave : Result (List ℕ) Refusal
  pub reading : IsFileReading which name before now gave
  pub after : After Ends gave result

-- one reading of a file, whose bytes are this sheet
abbrev pub ReadsSheet : List ℕ → ShelfAt → ShelfAt → Result SheetParts Refusal → Type 0
ReadsSheet name before now result =
    Reads source.Sheet name (λ bytes. Gives (sheet_by bytes)) before now result

-- no call of the shelf
pub record NoFile (Ends : Ending → Type 0) (before now : ShelfAt) (ending : Ending) : Type 0 where
  pub none : now ≡ before
  pub does : Ends ending

-- one reading of a sheet, and this of it; no other call of the shelf
pub record OneFile (name : List ℕ) (Ends : SheetParts → Ending → Type 0) (before now : ShelfAt)
    (ending : Ending) : Type 0 where
  pub gave : Result SheetParts Refusal
  pub sheet : ReadsSheet name before now gave
  pub after : After Ends gave ending

-- one reading of another file, where the sheet was read, and this of its bytes
abbrev pub ReadsNext : Source → List ℕ → (SheetParts → List ℕ → Ending → Type 0) →
    Result SheetParts Refusal → ShelfAt → ShelfAt → Ending → Type 0
ReadsNext which name Ends (Ok sheet) middle now ending =
    Reads which name (Ends sheet) middle now ending
ReadsNext which name Ends (Err refusal) middle now ending = (now ≡ middle) × (ending ≡ Err refusal)

-- one reading of a sheet, then one of another file, and this of both; no other call of the shelf
pub record TwoFiles (sheet_name : List ℕ) (which : Source) (name : List ℕ)
    (Ends : SheetParts → List ℕ → Ending → Type 0) (before now : ShelfAt) (ending : Ending)
    : Type 0 where
  pub gave : Result SheetParts Refusal
  pub middle : ShelfAt
  pub sheet : ReadsSheet sheet_name before middle gave
  pub next : ReadsNext which name Ends gave middle now ending
