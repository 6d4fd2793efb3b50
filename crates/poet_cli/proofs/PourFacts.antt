-- Pouring a file reads it once.
use Rattle.std.proofs.Common.{◌≡◌, inl, inr, ℕ, ◌+◌, ◌≤◌, List, ◌++◌, length, Option, Ok, Err, refl, arith, length-append}
use Rattle.poet_io.specs.declared.eater.PourRefusal.TheVariants as pours
use Rattle.poet_io.specs.declared.shelf.ReadRefusal.TheVariants as stop
use Rattle.poet_io.specs.Events.{ReadUntil}
use Rattle.poet_io.specs.Pours.{FailedAfter, PourCalls, PourFound}
use Rattle.poet_io.specs.Reads.{IsAll, IsPart, HasFailed}
use Rattle.poet_io.specs.Shelves.{Files, IfTold}
use Rattle.poet_io.proofs.Telling.{if_told_map}
use Rattle.poet_text.specs.declared.refusal.Source.{Source}
use Rattle.poet_text.specs.declared.refusal.Refusal.TheVariants.{Read, Limit}
use Rattle.poet_text.specs.Refusals.{limit_of}
use Rattle.poet_cli.specs.Readings.{ShelfAt, IsLongerThan, IsFileReading}

module _ (which : Source) (name : List ℕ) (before now : ShelfAt) (same : now.files ≡ before.files) (later : before.faults ≤ now.faults)
    (bytes : List ℕ) (left : Option (List ℕ)) where
  -- pouring a file reads it once
  pub poured_whole : PourCalls {T = Unit {0}} name (limit_of which) bytes before.log now.log (Ok tt) → IfTold before.files (IsAll name bytes left) →
      IsFileReading which name before now (Ok bytes)
  poured_whole calls found = record {
    files = same;
    later = later;
    calls = record { few = calls.0; calls = calls.1; is_told = if_told_map before.files (IsAll name bytes left) _ (λ x all. all.0) found };
  }

  fault_calls : length bytes ≤ limit_of which → FailedAfter name bytes before.log now.log → ReadUntil name (limit_of which) before.log now.log stop.Fault
  fault_calls few (inl opened) = inl opened.1
  fault_calls few (inr read) = inr (record { bytes = bytes; read = read; few = few })

  pub poured_fault : PourCalls {T = Unit {0}} name (limit_of which) bytes before.log now.log (Err pours.Fault) →
      HasFailed now.is_open left before.faults now.faults → IsFileReading which name before now (Err (Read which))
  poured_fault calls found = record {
    files = same;
    later = later;
    calls = (refl, record { calls = inl (fault_calls calls.0 calls.1, found.cause); closed = found.closed.closed });
  }

  pub poured_absent : PourCalls {T = Unit {0}} name (limit_of which) bytes before.log now.log (Err pours.Absent) →
      PourFound {T = Unit {0}} before.files name bytes now.is_open left before.faults now.faults (Err pours.Absent) →
      IsFileReading which name before now (Err (Read which))
  poured_absent calls found = record {
    files = same;
    later = later;
    calls = (refl, record { calls = inr (calls.1, found.1); closed = found.0.closed });
  }

  longer : length bytes ≡ limit_of which + 1 → (x : Files) → IsPart name bytes left x → IsLongerThan (limit_of which) name x
  longer count x part = (bytes ++ part.rest, part.file, omega (arith, count, length-append bytes part.rest))

  pub poured_long : PourCalls {T = Unit {0}} name (limit_of which) bytes before.log now.log (Err pours.TooLong) →
      IfTold before.files (IsPart name bytes left) → IsFileReading which name before now (Err (Limit which))
  poured_long calls found = record {
    files = same;
    later = later;
    calls = (
      refl,
      record {
        calls = (bytes, calls.1, calls.0);
        is_told = if_told_map before.files (IsPart name bytes left) (IsLongerThan (limit_of which) name) (longer calls.0) found;
      },
    );
  }
