-- One reading of a file: what it gave, and by which calls of the shelf.
use Rattle.std.specs.Prelude.{◌≡◌, ◌<◌, ◌≤◌, ◌⊎◌, ℕ, Bool, false, List, length, Option, Some, Result, Ok, Err}
use Rattle.poet_io.specs.declared.log.Event.{Event}
use Rattle.poet_io.specs.declared.shelf.ReadRefusal.TheVariants as stop
use Rattle.poet_io.specs.Events.{ReadToEnd, ReadUntil}
use Rattle.poet_io.specs.Faults.{Rose}
use Rattle.poet_io.specs.Shelves.{Files, IfTold, IsAbsent}
use Rattle.poet_text.specs.declared.refusal.Source.{Source}
use Rattle.poet_text.specs.declared.refusal.Refusal.{Refusal}
use Rattle.poet_text.specs.declared.refusal.Refusal.TheVariants.{Usage, Read, Sheet, Text, Limit, Points, Jobs, Segments, LongUpgrade, Memory}
use Rattle.poet_text.specs.Refusals.{limit_of}

-- a shelf at a moment
pub record ShelfAt : Type 0 where
  pub files : Option Files
  pub faults : ℕ
  pub is_open : Bool
  -- what its calls answered and handed over
  pub log : List Event

abbrev pub shelf_at : {S : Type 0} → (S → Option Files) → (S → ℕ) → (S → Bool) → (S → List Event) →
    S → ShelfAt
shelf_at files faults is_open log shelf =
    record { files = files shelf; faults = faults shelf; is_open = is_open shelf; log = log shelf }

-- the file was opened once and read to its end, which gave these bytes, within the limit of its kind
pub record WasRead (which : Source) (name : List ℕ) (told : Option Files) (before now : List Event)
    (bytes : List ℕ) : Type 0 where
  pub few : length bytes ≤ limit_of which
  pub calls : ReadToEnd name bytes before now
  pub is_told : IfTold told (λ files. files name ≡ Some bytes)

-- an opening or a read was a fault, or the shelf tells that there is no such file; nothing is open, and nothing was called after that
pub record WasNotRead (which : Source) (name : List ℕ) (before now : ShelfAt) : Type 0 where
  pub calls : (ReadUntil name (limit_of which) before.log now.log stop.Fault × Rose before.faults now.faults)
      ⊎ (ReadUntil name (limit_of which) before.log now.log stop.Absent × IsAbsent before.files name)
  pub closed : now.is_open ≡ false

abbrev pub IsLongerThan : ℕ → List ℕ → Files → Type 0
IsLongerThan limit name files =
    (bytes : List ℕ) × (files name ≡ Some bytes) × (limit < length bytes)

-- the file was read to one byte past the limit of its kind
pub record WasTooLong (which : Source) (name : List ℕ) (before now : ShelfAt) : Type 0 where
  pub calls : ReadUntil name (limit_of which) before.log now.log stop.TooLong
  pub is_told : IfTold before.files (IsLongerThan (limit_of which) name)

-- the calls of a reading that gave this
abbrev pub ReadCalls : Source → List ℕ → ShelfAt → ShelfAt → Result (List ℕ) Refusal → Type 0
ReadCalls which name before now (Ok bytes) =
    WasRead which name before.files before.log now.log bytes
ReadCalls which name before now (Err (Read at)) = (at ≡ which) × WasNotRead which name before now
ReadCalls which name before now (Err (Limit at)) = (at ≡ which) × WasTooLong which name before now
ReadCalls which name before now (Err Memory) =
    ReadUntil name (limit_of which) before.log now.log stop.Memory
ReadCalls which name before now (Err Usage) = ⊥
ReadCalls which name before now (Err (Sheet refusal)) = ⊥
ReadCalls which name before now (Err (Text at line)) = ⊥
ReadCalls which name before now (Err (Points task)) = ⊥
ReadCalls which name before now (Err Jobs) = ⊥
ReadCalls which name before now (Err Segments) = ⊥
ReadCalls which name before now (Err LongUpgrade) = ⊥

-- one reading of a file gave this
pub record IsFileReading (which : Source) (name : List ℕ) (before now : ShelfAt)
    (gave : Result (List ℕ) Refusal) : Type 0 where
  pub files : now.files ≡ before.files
  pub later : before.faults ≤ now.faults
  pub calls : ReadCalls which name before now gave
