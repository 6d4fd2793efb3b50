-- What a command that ended leaves of its shelf, and what its text was printed from.
use Rattle.std.proofs.Common.{◌≡◌, ◌≤◌, ℕ, Bool, false, List, Option, Some, None, Result, Ok, Err, IfOk, ap, subst, ◌∙◌, arith}
use Rattle.task_sheet.specs.SheetParts.{SheetParts}
use Rattle.task_sheet.specs.declared.refusal.SheetRefusal.{SheetRefusal}
use Rattle.task_sheet.specs.declared.refusal.SheetRefusal.TheVariants as sheets
use Rattle.poet_text.specs.declared.refusal.Source.{Source}
use Rattle.poet_text.specs.declared.refusal.Source.TheVariants as source
use Rattle.poet_text.specs.declared.refusal.Refusal.{Refusal}
use Rattle.poet_text.specs.declared.refusal.Refusal.TheVariants.{Usage, Read, Sheet, Text, Limit, Points, Jobs, Segments, LongUpgrade, Memory}
use Rattle.poet_text.specs.declared.printed.Printed.{Printed}
use Rattle.poet_text.specs.declared.printed.Printed.TheVariants.{Done, JudgedNo}
use Rattle.poet_text.specs.Endings.{Ending, IsSound}
use Rattle.poet_text.specs.Words.{Asked}
use Rattle.poet_text.specs.Tellings.{Told}
use Rattle.poet_cli.specs.Answers.{sheet_read, sheet_by}
use Rattle.poet_cli.specs.Readings.{ShelfAt, WasRead, IsFileReading}
use Rattle.poet_cli.specs.Steps.{Gives, After, Reads, ReadsSheet, OneFile, ReadsNext, TwoFiles}
use Rattle.poet_cli.specs.Origins.{OfFile, OfOneFile, OfTwoFiles}
use Rattle.poet_cli.specs.Works.{Work}
use Rattle.poet_cli.specs.Program.{Plan, Alone, OverFile, OverSheet, OverBoth, plan_of, PlanDoes, PlanSays, Does, Headline, Objection}
use Rattle.poet_cli.specs.Clauses.{Outside, LeavesShelf, Did}

-- a command that ended so, and how that was told
pub told_did : (asked : Option Asked) (before after : Outside) (status : ℕ) (ending : Ending) → Does asked before.shelf after.shelf ending →
    Told ending before.sinks after.sinks status → Did asked before after status
told_did asked before after status ending does told = record { ending = ending; does = does; told = told }

-- a sheet was read from these bytes
sheet_is : (read : Result SheetParts SheetRefusal) (parts : SheetParts) → sheet_read read ≡ Ok parts → read ≡ Ok parts
sheet_is (Ok sheet) parts e = cc
sheet_is (Err sheets.Memory) parts e = absurd (cc)
sheet_is (Err sheets.Text) parts e = absurd (cc)
sheet_is (Err (sheets.Unknown place)) parts e = absurd (cc)
sheet_is (Err (sheets.Missing place field)) parts e = absurd (cc)
sheet_is (Err (sheets.Kind place field)) parts e = absurd (cc)
sheet_is (Err (sheets.Range place field)) parts e = absurd (cc)
sheet_is (Err (sheets.Order place field)) parts e = absurd (cc)
sheet_is (Err sheets.Mixed) parts e = absurd (cc)
sheet_is (Err (sheets.Both task)) parts e = absurd (cc)
sheet_is (Err (sheets.Twice task)) parts e = absurd (cc)
sheet_is (Err (sheets.Sum task)) parts e = absurd (cc)

-- the bytes that gave a value
record Gave {A : Type 0} (which : Source) (name : List ℕ) (Ends : List ℕ → Result A Refusal → Type 0) (before now : ShelfAt) (value : A) : Type 0 where
  pub bytes : List ℕ
  pub read : WasRead which name before.files before.log now.log bytes
  pub ends : Ends bytes (Ok value)

gave_by : {A : Type 0} (which : Source) (name : List ℕ) (Ends : List ℕ → Result A Refusal → Type 0) (before now : ShelfAt)
    (value : A) (gave : Result (List ℕ) Refusal) → IsFileReading which name before now gave → After Ends gave (Ok value) → Gave which name Ends before now value
gave_by which name Ends before now value (Ok bytes) reading after = record { bytes = bytes; read = reading.calls; ends = after }
gave_by which name Ends before now value (Err refusal) reading after = absurd (cc)

gave_from : {A : Type 0} (which : Source) (name : List ℕ) (Ends : List ℕ → Result A Refusal → Type 0) (before now : ShelfAt)
    (value : A) → Reads which name Ends before now (Ok value) → Gave which name Ends before now value
gave_from which name Ends before now value reads = gave_by which name Ends before now value reads.gave reads.reading reads.after

pub file_of : (which : Source) (name : List ℕ) (Ends : List ℕ → Ending → Type 0) (before now : ShelfAt) (print : Printed) (Holds : List ℕ →
    Type 0) (holds : (bytes : List ℕ) → Ends bytes (Ok print) → Holds bytes) →
    Reads which name Ends before now (Ok print) → OfFile which name before.files before.log now.log Holds
file_of which name Ends before now print Holds holds reads =
    let from : Gave which name Ends before now print = gave_from which name Ends before now print reads in
    record { bytes = from.bytes; read = from.read; holds = holds from.bytes from.ends }

module _ (name : List ℕ) (Ends : SheetParts → Ending → Type 0) (before now : ShelfAt) (print : Printed) (Holds : SheetParts →
    Type 0) (holds : (parts : SheetParts) → Ends parts (Ok print) → Holds parts) where
  one_of_by : (gave : Result SheetParts Refusal) → ReadsSheet name before now gave → After Ends gave (Ok print) →
      OfOneFile name before.files before.log now.log (λ bytes. Holds)
  one_of_by (Ok parts) sheet after =
      let from : Gave source.Sheet name (λ bytes. Gives (sheet_by bytes)) before now parts = gave_from source.Sheet name _ before now parts sheet in
      record { bytes = from.bytes; read = from.read; sheet = parts; is_sheet = sheet_is _ parts from.ends; holds = holds parts after }
  one_of_by (Err refusal) sheet after = absurd (cc)

  one_of : OneFile name Ends before now (Ok print) → OfOneFile name before.files before.log now.log (λ bytes. Holds)
  one_of one = one_of_by one.gave one.sheet one.after

module _ (sheet_name : List ℕ) (which : Source) (name : List ℕ) (Ends : SheetParts → List ℕ → Ending →
    Type 0) (before now : ShelfAt) (print : Printed) (Holds : SheetParts → List ℕ → Type 0)
    (holds : (parts : SheetParts) (bytes : List ℕ) → Ends parts bytes (Ok print) → Holds parts bytes) where
  two_of_by : (middle : ShelfAt) (gave : Result SheetParts Refusal) → ReadsSheet sheet_name before middle gave →
      ReadsNext which name Ends gave middle now (Ok print) → OfTwoFiles sheet_name which name before.files before.log now.log (λ sheet_bytes. Holds)
  two_of_by middle (Ok parts) sheet next =
      let from : Gave source.Sheet sheet_name (λ bytes. Gives (sheet_by bytes)) before middle parts =
      gave_from source.Sheet sheet_name _ before middle parts sheet in
      let other : Gave which name (Ends parts) middle now print = gave_from which name (Ends parts) middle now print next in
      record {
        sheet_bytes = from.bytes;
        middle = middle.log;
        sheet_read = from.read;
        sheet = parts;
        is_sheet = sheet_is _ parts from.ends;
        bytes = other.bytes;
        read = subst (λ told. WasRead which name told middle.log now.log other.bytes) sheet.reading.files other.read;
        holds = holds parts other.bytes other.ends;
      }
  two_of_by middle (Err refusal) sheet next = absurd (cc (next.1))

  two_of : TwoFiles sheet_name which name Ends before now (Ok print) → OfTwoFiles sheet_name which name before.files before.log now.log (λ sheet_bytes. Holds)
  two_of two = two_of_by two.middle two.gave two.sheet two.next

-- what is printed is true
abbrev Holds : Work → List ℕ → Type 0
Holds work text = work.holds text

abbrev Fails : Work → List ℕ → Type 0
Fails work text = work.fails text

plan_holds : (plan : Plan) (before now : ShelfAt) (text : List ℕ) → PlanDoes plan before now (Ok (Done text)) →
    PlanSays Holds plan before.files before.log now.log text
plan_holds (Alone IsOwn work) before now text does = does.does.sound
plan_holds (OverFile which name IsOwn work) before now text does = file_of which name _ before now (Done text) _ (λ bytes judges. judges.sound) does
plan_holds (OverSheet name IsOwn work) before now text does = one_of name _ before now (Done text) _ (λ parts judges. judges.sound) does
plan_holds (OverBoth sheet which name IsOwn work) before now text does =
    two_of sheet which name _ before now (Done text) _ (λ parts bytes judges. judges.sound) does

plan_fails : (plan : Plan) (before now : ShelfAt) (text : List ℕ) → PlanDoes plan before now (Ok (JudgedNo text)) →
    PlanSays Fails plan before.files before.log now.log text
plan_fails (Alone IsOwn work) before now text does = does.does.sound
plan_fails (OverFile which name IsOwn work) before now text does = file_of which name _ before now (JudgedNo text) _ (λ bytes judges. judges.sound) does
plan_fails (OverSheet name IsOwn work) before now text does = one_of name _ before now (JudgedNo text) _ (λ parts judges. judges.sound) does
plan_fails (OverBoth sheet which name IsOwn work) before now text does =
    two_of sheet which name _ before now (JudgedNo text) _ (λ parts bytes judges. judges.sound) does

pub does_sound : (asked : Option Asked) (before now : ShelfAt) (ending : Ending) → Does asked before now ending →
    IfOk ending (IsSound (Headline asked before.files before.log now.log) (Objection asked before.files before.log now.log))
does_sound asked before now (Err refusal) does = tt
does_sound None before now (Ok print) does = absurd (cc (does.does))
does_sound (Some asked) before now (Ok (Done text)) does = plan_holds (plan_of asked) before now text does
does_sound (Some asked) before now (Ok (JudgedNo text)) does = plan_fails (plan_of asked) before now text does

-- nothing is open where a file could not be read
abbrev pub Shut : {A : Type 0} → Bool → Result A Refusal → Type 0
Shut is_open (Ok a) = Unit {0}
Shut is_open (Err Usage) = Unit {0}
Shut is_open (Err (Read which)) = is_open ≡ false
Shut is_open (Err (Sheet refusal)) = Unit {0}
Shut is_open (Err (Text which line)) = Unit {0}
Shut is_open (Err (Limit which)) = Unit {0}
Shut is_open (Err (Points name)) = Unit {0}
Shut is_open (Err Jobs) = Unit {0}
Shut is_open (Err Segments) = Unit {0}
Shut is_open (Err LongUpgrade) = Unit {0}
Shut is_open (Err Memory) = Unit {0}

gives_shut : {A : Type 0} (answer : Result A Refusal) (is_open : Bool) (result : Result A Refusal) → Gives answer result → Shut is_open result
gives_shut answer is_open (Ok a) gives = tt
gives_shut answer is_open (Err Usage) gives = tt
gives_shut answer is_open (Err (Read which)) gives = absurd gives
gives_shut answer is_open (Err (Sheet refusal)) gives = tt
gives_shut answer is_open (Err (Text which line)) gives = tt
gives_shut answer is_open (Err (Limit which)) gives = tt
gives_shut answer is_open (Err (Points name)) gives = tt
gives_shut answer is_open (Err Jobs) gives = tt
gives_shut answer is_open (Err Segments) gives = tt
gives_shut answer is_open (Err LongUpgrade) gives = tt
gives_shut answer is_open (Err Memory) gives = tt

-- the files stay, the count of faults has not fallen, and nothing is open where a file could not be read
pub record Leaves {A : Type 0} (before now : ShelfAt) (result : Result A Refusal) : Type 0 where
  pub files : now.files ≡ before.files
  pub later : before.faults ≤ now.faults
  pub shut : Shut now.is_open result

reading_shut : (which : Source) (name : List ℕ) (before now : ShelfAt) (refusal : Refusal) →
    IsFileReading which name before now (Err refusal) → Shut {A = Unit {0}} now.is_open (Err refusal)
reading_shut which name before now (Read at) reading = reading.calls.1.closed
reading_shut which name before now (Limit at) reading = tt
reading_shut which name before now Memory reading = tt
reading_shut which name before now Usage reading = tt
reading_shut which name before now (Sheet refusal) reading = tt
reading_shut which name before now (Text at line) reading = tt
reading_shut which name before now (Points task) reading = tt
reading_shut which name before now Jobs reading = tt
reading_shut which name before now Segments reading = tt
reading_shut which name before now LongUpgrade reading = tt

shut_same : (A B : Type 0) (is_open : Bool) (refusal : Refusal) → Shut {A = A} is_open (Err refusal) → Shut {A = B} is_open (Err refusal)
shut_same A B is_open Usage shut = tt
shut_same A B is_open (Read which) shut = shut
shut_same A B is_open (Sheet refusal) shut = tt
shut_same A B is_open (Text which line) shut = tt
shut_same A B is_open (Limit which) shut = tt
shut_same A B is_open (Points name) shut = tt
shut_same A B is_open Jobs shut = tt
shut_same A B is_open Segments shut = tt
shut_same A B is_open LongUpgrade shut = tt
shut_same A B is_open Memory shut = tt

module _ {A : Type 0} (which : Source) (name : List ℕ) (Ends : List ℕ → Result A Refusal → Type 0) (before now : ShelfAt)
    (result : Result A Refusal) (answer : List ℕ → Result A Refusal)
    (gives : (bytes : List ℕ) → Ends bytes result → Gives (answer bytes) result) where
  reads_shut : (gave : Result (List ℕ) Refusal) → IsFileReading which name before now gave → After Ends gave result → Shut now.is_open result
  reads_shut (Ok bytes) reading after = gives_shut (answer bytes) now.is_open result (gives bytes after)
  reads_shut (Err refusal) reading after = rw after (shut_same (Unit {0}) A now.is_open refusal (reading_shut which name before now refusal reading))

  pub reads_leave : Reads which name Ends before now result → Leaves before now result
  reads_leave reads = record { files = reads.reading.files; later = reads.reading.later; shut = reads_shut reads.gave reads.reading reads.after }

sheet_leaves : (name : List ℕ) (before now : ShelfAt) (result : Result SheetParts Refusal) → ReadsSheet name before now result → Leaves before now result
sheet_leaves name before now result sheet =
    reads_leave source.Sheet name (λ bytes. Gives (sheet_by bytes)) before now result sheet_by (λ bytes gives. gives) sheet

module _ (name : List ℕ) (Ends : SheetParts → Ending → Type 0) (answer : SheetParts → Ending) (before now : ShelfAt)
    (ending : Ending) (gives : (parts : SheetParts) → Ends parts ending → Gives (answer parts) ending) where
  one_shut : (gave : Result SheetParts Refusal) → Shut now.is_open gave → After Ends gave ending → Shut now.is_open ending
  one_shut (Ok parts) shut after = gives_shut (answer parts) now.is_open ending (gives parts after)
  one_shut (Err refusal) shut after = rw after (shut_same SheetParts Printed now.is_open refusal shut)

  one_leaves : OneFile name Ends before now ending → Leaves before now ending
  one_leaves one =
      let left : Leaves before now one.gave = sheet_leaves name before now one.gave one.sheet in
      record { files = left.files; later = left.later; shut = one_shut one.gave left.shut one.after }

module _ (sheet_name : List ℕ) (which : Source) (name : List ℕ) (Ends : SheetParts → List ℕ → Ending →
    Type 0) (answer : SheetParts → List ℕ → Ending) (before middle now : ShelfAt) (ending : Ending)
    (gives : (parts : SheetParts) (bytes : List ℕ) → Ends parts bytes ending → Gives (answer parts bytes) ending) where
  two_by : (gave : Result SheetParts Refusal) → Leaves before middle gave → ReadsNext which name Ends gave middle now ending → Leaves before now ending
  two_by (Ok parts) first next =
      let left : Leaves middle now ending = reads_leave which name (Ends parts) middle now ending (answer parts) (gives parts) next in
      record { files = left.files ∙ first.files; later = omega (arith, first.later, left.later); shut = left.shut }
  two_by (Err refusal) first next =
      let here : now ≡ middle = next.0 in
      rw (here, next.1) (record { files = first.files; later = first.later; shut = shut_same SheetParts Printed middle.is_open refusal first.shut })

two_leaves : (sheet_name : List ℕ) (which : Source) (name : List ℕ) (Ends : SheetParts → List ℕ → Ending →
    Type 0) (answer : SheetParts → List ℕ → Ending) (before now : ShelfAt) (ending : Ending) →
    ((parts : SheetParts) (bytes : List ℕ) → Ends parts bytes ending → Gives (answer parts bytes) ending) →
    TwoFiles sheet_name which name Ends before now ending → Leaves before now ending
two_leaves sheet_name which name Ends answer before now ending gives two =
    two_by sheet_name which name Ends answer before two.middle now ending gives two.gave (sheet_leaves sheet_name before two.middle two.gave two.sheet) two.next

none_leaves : (before now : ShelfAt) (ending : Ending) → now ≡ before → Shut now.is_open ending → Leaves before now ending
none_leaves before now ending none shut = record { files = ap (λ x. x.files) none; later = omega (arith, ap (λ x. x.faults) none); shut = shut }

plan_leaves : (plan : Plan) (before now : ShelfAt) (ending : Ending) → PlanDoes plan before now ending → Leaves before now ending
plan_leaves (Alone IsOwn work) before now ending does = none_leaves before now ending does.none (gives_shut work.answer now.is_open ending does.does.gives)
plan_leaves (OverFile which name IsOwn work) before now ending does =
    reads_leave which name _ before now ending (λ bytes. (work bytes).answer) (λ bytes judges. judges.gives) does
plan_leaves (OverSheet name IsOwn work) before now ending does =
    one_leaves name _ (λ parts. (work parts).answer) before now ending (λ parts judges. judges.gives) does
plan_leaves (OverBoth sheet which name IsOwn work) before now ending does =
    two_leaves sheet which name _ (λ parts bytes. (work parts bytes).answer) before now ending (λ parts bytes judges. judges.gives) does

pub does_leave : (asked : Option Asked) (before now : ShelfAt) (ending : Ending) → Does asked before now ending → Leaves before now ending
does_leave None before now ending does = none_leaves before now ending does.none (rw does.does tt)
does_leave (Some asked) before now ending does = plan_leaves (plan_of asked) before now ending does

-- the clause `shelf`
shut_read : (is_open : Bool) (ending : Ending) (which : Source) → Shut is_open ending → ending ≡ Err (Read which) → is_open ≡ false
shut_read is_open ending which shut e = rw e at shut

pub leaves_told : (before now : ShelfAt) (ending : Ending) (status : ℕ) → Leaves before now ending →
    (status ≡ 3 → (which : Source) × (ending ≡ Err (Read which))) →
    LeavesShelf before now status
leaves_told before now ending status left read =
    record {
      files = left.files;
      later = left.later;
      closed = λ e. let at : (which : Source) × (ending ≡ Err (Read which)) =
          read e in shut_read now.is_open ending at.0 left.shut at.1;
    }
