-- The names that a command opened, from its steps.
use Rattle.std.proofs.Common.{◌≡◌, inl, inr, ℕ, true, List, [], ◌∷◌, ◌++◌, map, Option, Some, None, Result, Ok, Err, refl, sym, ap, ◌∙◌}
use Rattle.std.proofs.Common.{append_assoc, append-nil}
use Rattle.poet_io.specs.declared.log.Event.{Event}
use Rattle.poet_io.specs.declared.log.Event.TheVariants as event
use Rattle.poet_io.specs.declared.shelf.ReadRefusal.{ReadRefusal}
use Rattle.poet_io.specs.declared.shelf.ReadRefusal.TheVariants as stop
use Rattle.poet_io.specs.Events.{Move, read_event, ReadSoFar, ReadToEnd, ReadUntil}
use Rattle.task_sheet.specs.SheetParts.{SheetParts}
use Rattle.poet_text.specs.declared.refusal.Source.{Source}
use Rattle.poet_text.specs.declared.refusal.Source.TheVariants as source
use Rattle.poet_text.specs.declared.refusal.Refusal.{Refusal}
use Rattle.poet_text.specs.declared.refusal.Refusal.TheVariants.{Usage, Read, Sheet, Text, Limit, Points, Jobs, Segments, LongUpgrade, Memory}
use Rattle.poet_text.specs.Endings.{Ending}
use Rattle.poet_text.specs.Words.{Asked}
use Rattle.poet_text.specs.Refusals.{limit_of}
use Rattle.poet_cli.specs.Readings.{ShelfAt, IsFileReading}
use Rattle.poet_cli.specs.Steps.{Reads, ReadsSheet, OneFile, ReadsNext, TwoFiles}
use Rattle.poet_cli.specs.Openings.{opened_in, Opens, OpensFront}
use Rattle.poet_cli.specs.Program.{Plan, Alone, OverFile, OverSheet, OverBoth, plan_of, plan_files, files_of, PlanDoes, Does}

opened_append : (xs ys : List Event) → opened_in (xs ++ ys) ≡ opened_in xs ++ opened_in ys
opened_append [] ys = refl
opened_append (event.Opened name found ∷ xs) ys = ap (λ names. name ∷ names) (opened_append xs ys)
opened_append (event.OpenFailed name ∷ xs) ys = ap (λ names. name ∷ names) (opened_append xs ys)
opened_append (event.Read room bytes ∷ xs) ys = opened_append xs ys
opened_append (event.ReadFailed ∷ xs) ys = opened_append xs ys

opened_reads : (moves : List Move) → opened_in (map read_event moves) ≡ []
opened_reads [] = refl
opened_reads (move ∷ moves) = opened_reads moves

opens_next : (before middle now : List Event) (xs ys : List (List ℕ)) → Opens before middle xs → Opens middle now ys → Opens before now (xs ++ ys)
opens_next before middle now xs ys first next =
    record {
      calls = first.calls ++ next.calls;
      since = next.since ∙ ap (λ events. events ++ next.calls) first.since ∙ append_assoc before first.calls next.calls;
      names_are = opened_append first.calls next.calls ∙ ap (λ names. names ++ opened_in next.calls) first.names_are ∙ ap (λ names. xs ++ names) next.names_are;
    }

opens_more : (before middle now : List Event) (name : List ℕ) → Opens before middle (name ∷ []) → Opens middle now [] → Opens before now (name ∷ [])
opens_more before middle now name first next = opens_next before middle now (name ∷ []) [] first next

opens_so_far : (name bytes : List ℕ) (before now : List Event) → ReadSoFar name bytes before now → Opens before now (name ∷ [])
opens_so_far name bytes before now so_far =
    record {
      calls = event.Opened name true ∷ map read_event so_far.moves;
      since = so_far.calls;
      names_are =
          ap (λ names. name ∷ names) (opened_reads so_far.moves);
    }

opens_to_end : (name bytes : List ℕ) (before now : List Event) → ReadToEnd name bytes before now → Opens before now (name ∷ [])
opens_to_end name bytes before now read =
    opens_more before read.middle now name (opens_so_far name bytes before read.middle read.so_far)
    (record { calls = event.Read read.room [] ∷ []; since = read.ended; names_are = refl })

opens_until : (name : List ℕ) (limit : ℕ) (before now : List Event) (refusal : ReadRefusal) →
    ReadUntil name limit before now refusal → Opens before now (name ∷ [])
opens_until name limit before now stop.Fault (inl failed) = record { calls = event.OpenFailed name ∷ []; since = failed; names_are = refl }
opens_until name limit before now stop.Fault (inr some) =
    opens_more before some.read.middle now name (opens_so_far name some.bytes before some.read.middle some.read.so_far)
    (record { calls = event.ReadFailed ∷ []; since = some.read.failed; names_are = refl })
opens_until name limit before now stop.Absent absent = record { calls = event.Opened name _ ∷ []; since = absent; names_are = refl }
opens_until name limit before now stop.TooLong (bytes, so_far, many) = opens_so_far name bytes before now so_far
opens_until name limit before now stop.Memory (bytes, so_far, few) = opens_so_far name bytes before now so_far

reading_opens : (which : Source) (name : List ℕ) (before now : ShelfAt) (gave : Result (List ℕ) Refusal) →
    IsFileReading which name before now gave → Opens before.log now.log (name ∷ [])
reading_opens which name before now (Ok bytes) reading = opens_to_end name bytes before.log now.log reading.calls.calls
reading_opens which name before now (Err (Read at)) reading =
    elim reading.calls.1.calls [
      | inl fault ↦ opens_until name (limit_of which) before.log now.log stop.Fault fault.0
      | inr absent ↦ opens_until name (limit_of which) before.log now.log stop.Absent absent.0
    ]
reading_opens which name before now (Err (Limit at)) reading = opens_until name (limit_of which) before.log now.log stop.TooLong reading.calls.1.calls
reading_opens which name before now (Err Memory) reading = opens_until name (limit_of which) before.log now.log stop.Memory reading.calls
reading_opens which name before now (Err Usage) reading = absurd reading.calls
reading_opens which name before now (Err (Sheet refusal)) reading = absurd reading.calls
reading_opens which name before now (Err (Text at line)) reading = absurd reading.calls
reading_opens which name before now (Err (Points task)) reading = absurd reading.calls
reading_opens which name before now (Err Jobs) reading = absurd reading.calls
reading_opens which name before now (Err Segments) reading = absurd reading.calls
reading_opens which name before now (Err LongUpgrade) reading = absurd reading.calls

none_opens : (names : List (List ℕ)) (before now : ShelfAt) → now ≡ before → OpensFront names before.log now.log
none_opens names before now none =
    record {
      front = [];
      rest = names;
      whole = refl;
      opens =
          record { calls = []; since = ap (λ x. x.log) none ∙ sym (append-nil before.log); names_are = refl };
    }

pub file_opens : (which : Source) (name : List ℕ) (Ends : List ℕ → Ending → Type 0) (before now : ShelfAt) (ending : Ending) →
    Reads which name Ends before now ending → OpensFront (name ∷ []) before.log now.log
file_opens which name Ends before now ending reads =
    record { front = name ∷ []; rest = []; whole = refl; opens = reading_opens which name before now reads.gave reads.reading }

one_opens : (name : List ℕ) (Ends : SheetParts → Ending → Type 0) (before now : ShelfAt) (ending : Ending) →
    OneFile name Ends before now ending → OpensFront (name ∷ []) before.log now.log
one_opens name Ends before now ending one =
    record { front = name ∷ []; rest = []; whole = refl; opens = reading_opens source.Sheet name before now one.sheet.gave one.sheet.reading }

module _ (sheet_name : List ℕ) (which : Source) (name : List ℕ) (Ends : SheetParts → List ℕ → Ending →
    Type 0) (before middle now : ShelfAt) (ending : Ending) where
  two_opens_by : (gave : Result SheetParts Refusal) → ReadsSheet sheet_name before middle gave →
      ReadsNext which name Ends gave middle now ending → OpensFront (sheet_name ∷ name ∷ []) before.log now.log
  two_opens_by (Ok parts) sheet next =
      record {
        front = sheet_name ∷ name ∷ [];
        rest = [];
        whole = refl;
        opens = opens_next before.log middle.log now.log (sheet_name ∷ []) (name ∷ [])
            (reading_opens source.Sheet sheet_name before middle sheet.gave sheet.reading) (reading_opens which name middle now next.gave next.reading);
      }
  two_opens_by (Err refusal) sheet next =
      rw next.0 (record {
        front = sheet_name ∷ [];
        rest = name ∷ [];
        whole = refl;
        opens =
            reading_opens source.Sheet sheet_name before middle sheet.gave sheet.reading;
      })

two_opens : (sheet_name : List ℕ) (which : Source) (name : List ℕ) (Ends : SheetParts → List ℕ → Ending →
    Type 0) (before now : ShelfAt) (ending : Ending) → TwoFiles sheet_name which name Ends before now ending →
    OpensFront (sheet_name ∷ name ∷ []) before.log now.log
two_opens sheet_name which name Ends before now ending two = two_opens_by sheet_name which name Ends before two.middle now ending two.gave two.sheet two.next

-- a command opens a front of its files, in their order, and nothing else
plan_open : (plan : Plan) (before now : ShelfAt) (ending : Ending) → PlanDoes plan before now ending →
    OpensFront (plan_files plan) before.log now.log
plan_open (Alone IsOwn work) before now ending does = none_opens [] before now does.none
plan_open (OverFile which name IsOwn work) before now ending does = file_opens which name _ before now ending does
plan_open (OverSheet name IsOwn work) before now ending does = one_opens name _ before now ending does
plan_open (OverBoth sheet which name IsOwn work) before now ending does = two_opens sheet which name _ before now ending does

pub does_open : (asked : Option Asked) (before now : ShelfAt) (ending : Ending) → Does asked before now ending →
    OpensFront (files_of asked) before.log now.log
does_open None before now ending does = none_opens [] before now does.none
does_open (Some asked) before now ending does = plan_open (plan_of asked) before now ending does
