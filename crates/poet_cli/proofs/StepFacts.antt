-- The steps of a command, from what they read.
use Rattle.std.proofs.Common.{◌≡◌, ℕ, List, Ok, Err, refl}
use Rattle.task_sheet.specs.SheetParts.{SheetParts}
use Rattle.poet_text.specs.declared.refusal.Source.{Source}
use Rattle.poet_text.specs.declared.refusal.Refusal.{Refusal}
use Rattle.poet_text.specs.Endings.{Ending}
use Rattle.poet_cli.specs.Readings.{ShelfAt, IsFileReading}
use Rattle.poet_cli.specs.Steps.{ReadsSheet, OneFile, TwoFiles}

module _ (name : List ℕ) (Ends : SheetParts → Ending → Type 0) (before now : ShelfAt) (ending : Ending) where
  pub one_no_sheet : (refusal : Refusal) → ReadsSheet name before now (Err refusal) → ending ≡ Err refusal → OneFile name Ends before now ending
  one_no_sheet refusal sheet is = record { gave = Err refusal; sheet = sheet; after = is }

  pub one_read : (parts : SheetParts) → ReadsSheet name before now (Ok parts) → Ends parts ending → OneFile name Ends before now ending
  one_read parts sheet ends = record { gave = Ok parts; sheet = sheet; after = ends }

module _ (sheet_name : List ℕ) (which : Source) (name : List ℕ) (Ends : SheetParts → List ℕ → Ending →
    Type 0) (before middle now : ShelfAt) (ending : Ending) where
  pub two_no_sheet : (refusal : Refusal) → ReadsSheet sheet_name before now (Err refusal) → ending ≡ Err refusal →
      TwoFiles sheet_name which name Ends before now ending
  two_no_sheet refusal sheet is = record { gave = Err refusal; middle = now; sheet = sheet; next = (refl, is) }

  pub two_not_read : (parts : SheetParts) (refusal : Refusal) → ReadsSheet sheet_name before middle (Ok parts) →
      IsFileReading which name middle now (Err refusal) → ending ≡ Err refusal → TwoFiles sheet_name which name Ends before now ending
  two_not_read parts refusal sheet reading is =
      record { gave = Ok parts; middle = middle; sheet = sheet; next = record { gave = Err refusal; reading = reading; after = is } }

  pub two_read : (parts : SheetParts) (bytes : List ℕ) → ReadsSheet sheet_name before middle (Ok parts) →
      IsFileReading which name middle now (Ok bytes) → Ends parts bytes ending → TwoFiles sheet_name which name Ends before now ending
  two_read parts bytes sheet reading ends =
      record { gave = Ok parts; middle = middle; sheet = sheet; next = record { gave = Ok bytes; reading = reading; after = ends } }
