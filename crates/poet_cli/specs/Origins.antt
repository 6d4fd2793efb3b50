-- What was read for a text that was printed, and what holds of it.
use Rattle.std.specs.Prelude.{◌≡◌, List, ℕ, Option, Ok}
use Rattle.poet_io.specs.declared.log.Event.{Event}
use Rattle.poet_io.specs.Shelves.{Files}
use Rattle.poet_io.specs.Sinks.{Appended}
use Rattle.task_sheet.specs.SheetParts.{SheetParts}
use Rattle.sheet_text.specs.SheetRows.{sheet_of_text}
use Rattle.poet_text.specs.declared.refusal.Source.{Source}
use Rattle.poet_text.specs.declared.refusal.Source.TheVariants as source
use Rattle.poet_cli.specs.Readings.{WasRead}

-- the bytes of a file that is no sheet were read, and this holds of them
pub record OfFile (which : Source) (name : List ℕ) (told : Option Files) (before now : List Event)
    (Holds : List ℕ → Type 0) : Type 0 where
  pub bytes : List ℕ
  pub read : WasRead which name told before now bytes
  pub holds : Holds bytes

-- the bytes of one file were read and are a sheet, and this holds of them and of it
pub record OfOneFile (name : List ℕ) (told : Option Files) (before now : List Event)
    (Holds : List ℕ → SheetParts → Type 0) : Type 0 where
  pub bytes : List ℕ
  pub read : WasRead source.Sheet name told before now bytes
  pub sheet : SheetParts
  pub is_sheet : sheet_of_text bytes ≡ Ok sheet
  pub holds : Holds bytes sheet

-- two files were read in turn: the bytes of the first are a sheet, and this holds of them, of it and of the second's
pub record OfTwoFiles (sheet_name : List ℕ) (which : Source) (name : List ℕ) (told : Option Files)
    (before now : List Event) (Holds : List ℕ → SheetParts → List ℕ → Type 0)
    : Type 0 where
  pub sheet_bytes : List ℕ
  pub middle : List Event
  pub sheet_read : WasRead source.Sheet sheet_name told before middle sheet_bytes
  pub sheet : SheetParts
  pub is_sheet : sheet_of_text sheet_bytes ≡ Ok sheet
  pub bytes : List ℕ
  pub read : WasRead which name told middle now bytes
  pub holds : Holds sheet_bytes sheet bytes

-- a text was written, and this holds of it
pub record WasPrinted (before now : List ℕ) (Holds : List ℕ → Type 0) : Type 0 where
  pub text : List ℕ
  pub written : Appended before now text
  pub holds : Holds text
