-- Which refusals a command can give.
use Rattle.std.specs.Prelude.{◌≡◌, ◌≢◌, ◌⊎◌, ℕ, List, Option, IsOk}
use Rattle.poet_io.specs.Shelves.{Files, IfTold}
use Rattle.task_sheet.specs.declared.refusal.SheetRefusal.TheVariants as sheets
use Rattle.poet_text.specs.declared.refusal.Source.{Source}
use Rattle.poet_text.specs.declared.refusal.Source.TheVariants as source
use Rattle.poet_text.specs.declared.refusal.Refusal.{Refusal}
use Rattle.poet_text.specs.declared.refusal.Refusal.TheVariants.{Usage, Read, Sheet, Text, Limit, Points, Jobs, Segments, LongUpgrade, Memory}
use Rattle.poet_cli.specs.Answers.{sheet_in}

-- a refusal of what was read: of a text of these, one of the command's own, or want of memory
abbrev pub IsOf : (Source → Type 0) → (Refusal → Type 0) → Refusal → Type 0
IsOf IsText IsOwn Usage = ⊥
IsOf IsText IsOwn (Read which) = ⊥
IsOf IsText IsOwn (Sheet refusal) = ⊥
IsOf IsText IsOwn (Text which line) = IsText which
IsOf IsText IsOwn (Limit which) = ⊥
IsOf IsText IsOwn (Points name) = IsOwn (Points name)
IsOf IsText IsOwn Jobs = IsOwn Jobs
IsOf IsText IsOwn Segments = IsOwn Segments
IsOf IsText IsOwn LongUpgrade = IsOwn LongUpgrade
IsOf IsText IsOwn Memory = Unit {0}

-- no text is refused, or the text of this file, which is no sheet
abbrev pub NoText : Source → Type 0
NoText which = ⊥

abbrev pub IsTextOf : Source → Source → Type 0
IsTextOf other which = (which ≡ other) × (which ≢ source.Sheet)

-- the refusals of a command's own: none, too many points, too long a run, or too long a certificate to print
abbrev pub IsNoRefusal : Refusal → Type 0
IsNoRefusal refusal = ⊥

abbrev pub IsPointsRefusal : Refusal → Type 0
IsPointsRefusal (Points name) = Unit {0}
IsPointsRefusal refusal = ⊥

abbrev pub IsRunRefusal : Refusal → Type 0
IsRunRefusal Jobs = Unit {0}
IsRunRefusal Segments = Unit {0}
IsRunRefusal refusal = ⊥

abbrev pub IsUpgradeRefusal : Refusal → Type 0
IsUpgradeRefusal LongUpgrade = Unit {0}
IsUpgradeRefusal refusal = ⊥

-- a command that reads these files, and has these refusals of its own, can be refused so
abbrev pub MayRefuse : (Source → Type 0) → (Refusal → Type 0) → Refusal → Type 0
MayRefuse IsRead IsOwn Usage = ⊥
MayRefuse IsRead IsOwn (Read which) = IsRead which
MayRefuse IsRead IsOwn (Sheet refusal) = IsRead source.Sheet × (refusal ≢ sheets.Memory)
MayRefuse IsRead IsOwn (Text which line) = IsRead which × (which ≢ source.Sheet)
MayRefuse IsRead IsOwn (Limit which) = IsRead which
MayRefuse IsRead IsOwn (Points name) = IsOwn (Points name)
MayRefuse IsRead IsOwn Jobs = IsOwn Jobs
MayRefuse IsRead IsOwn Segments = IsOwn Segments
MayRefuse IsRead IsOwn LongUpgrade = IsOwn LongUpgrade
MayRefuse IsRead IsOwn Memory = Unit {0}

-- no file is read; this one; a sheet; and then another file, which is so only where the bytes of the first are a sheet
abbrev pub NoSource : Source → Type 0
NoSource which = ⊥

abbrev pub IsThis : Source → Source → Type 0
IsThis other which = which ≡ other

abbrev pub IsSheet : Source → Type 0
IsSheet which = which ≡ source.Sheet

abbrev pub IsSheetOr : Source → List ℕ → Option Files → Source → Type 0
IsSheetOr other sheet told which =
    (which ≡ source.Sheet) ⊎ ((which ≡ other) × IfTold told (λ files. IsOk (sheet_in sheet files)))
