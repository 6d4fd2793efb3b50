-- Which refusals a command can give.
use Rattle.std.proofs.Common.{◌≡◌, ◌≢◌, ◌⊎◌, ◌↔◌, inl, inr, ℕ, List, Option, Some, None, Result, Ok, Err, IfErr, refl, sym, subst}
use Rattle.poet_io.specs.Shelves.{Files}
use Rattle.poet_io.proofs.Telling.{if_told_map}
use Rattle.task_sheet.specs.SheetParts.{SheetParts}
use Rattle.task_sheet.specs.declared.refusal.SheetRefusal.{SheetRefusal}
use Rattle.task_sheet.specs.declared.refusal.SheetRefusal.TheVariants as sheets
use Rattle.poet_text.specs.declared.refusal.Source.{Source}
use Rattle.poet_text.specs.declared.refusal.Source.TheVariants as source
use Rattle.poet_text.specs.declared.refusal.Refusal.{Refusal}
use Rattle.poet_text.specs.declared.refusal.Refusal.TheVariants.{Usage, Read, Sheet, Text, Limit, Points, Jobs, Segments, LongUpgrade, Memory}
use Rattle.poet_text.specs.Endings.{Ending}
use Rattle.poet_text.specs.Words.{Asked}
use Rattle.poet_cli.specs.Answers.{sheet_read, sheet_by, sheet_in}
use Rattle.poet_cli.specs.Readings.{ShelfAt, IsFileReading}
use Rattle.poet_cli.specs.Steps.{Gives, After, Reads, ReadsSheet, OneFile, ReadsNext, TwoFiles}
use Rattle.poet_cli.specs.Refusing.{IsOf, NoText, IsTextOf, MayRefuse, NoSource, IsThis, IsSheet, IsSheetOr}
use Rattle.poet_cli.specs.Program.{Plan, Alone, OverFile, OverSheet, OverBoth, plan_of, PlanDoes, PlanMayFail, MayFail, Does}
use Rattle.poet_cli.proofs.FoundFacts.{sheet_found}

-- a refusal that is given is want of memory, or the answer
given_refusal : {A : Type 0} (answer : Result A Refusal) (refusal : Refusal) → Gives answer (Err refusal) → (refusal ≡ Memory) ⊎ (answer ≡ Err refusal)
given_refusal answer Usage gives = absurd gives
given_refusal answer (Read which) gives = absurd gives
given_refusal answer (Sheet refusal) gives = inr gives
given_refusal answer (Text which line) gives = inr gives
given_refusal answer (Limit which) gives = inr gives
given_refusal answer (Points name) gives = inr gives
given_refusal answer Jobs gives = inr gives
given_refusal answer Segments gives = inr gives
given_refusal answer LongUpgrade gives = inr gives
given_refusal answer Memory gives = inl refl

module _ (IsRead : Source → Type 0) (IsOwn : Refusal → Type 0) where
  abbrev May : Refusal → Type 0
  May refusal = MayRefuse IsRead IsOwn refusal

  -- where each refusal of an answer can be given, so can each that it leads to
  may_by : {A : Type 0} (answer : Result A Refusal) (refusal : Refusal) → ((other : Refusal) → answer ≡ Err other → May other) →
      Gives answer (Err refusal) → May refusal
  may_by answer refusal may gives = elim (given_refusal answer refusal gives) [ inl memory ↦ rw memory tt | inr is ↦ may refusal is ]

  may_reading : (which : Source) (name : List ℕ) (before now : ShelfAt) (refusal : Refusal) → IsRead which →
      IsFileReading which name before now (Err refusal) → May refusal
  may_reading which name before now (Read at) is reading = subst IsRead (sym reading.calls.0) is
  may_reading which name before now (Limit at) is reading = subst IsRead (sym reading.calls.0) is
  may_reading which name before now Memory is reading = tt
  may_reading which name before now Usage is reading = absurd reading.calls
  may_reading which name before now (Sheet refusal) is reading = absurd reading.calls
  may_reading which name before now (Text at line) is reading = absurd reading.calls
  may_reading which name before now (Points task) is reading = absurd reading.calls
  may_reading which name before now Jobs is reading = absurd reading.calls
  may_reading which name before now Segments is reading = absurd reading.calls
  may_reading which name before now LongUpgrade is reading = absurd reading.calls

  module _ {A : Type 0} (which : Source) (name : List ℕ) (Ends : List ℕ → Result A Refusal → Type 0) (before now : ShelfAt)
      (refusal : Refusal) (is : IsRead which) (may : (bytes : List ℕ) → Ends bytes (Err refusal) → May refusal) where
    may_reads_by : (gave : Result (List ℕ) Refusal) → IsFileReading which name before now gave → After Ends gave (Err refusal) → May refusal
    may_reads_by (Ok bytes) reading after = may bytes after
    may_reads_by (Err other) reading after =
        let same : other ≡ refusal = cc in
        subst May same (may_reading which name before now other is reading)

    pub may_reads : Reads which name Ends before now (Err refusal) → May refusal
    may_reads reads = may_reads_by reads.gave reads.reading reads.after

  sheet_refusal : IsRead source.Sheet → (read : Result SheetParts SheetRefusal) (refusal : Refusal) → sheet_read read ≡ Err refusal → May refusal
  sheet_refusal is (Ok sheet) refusal e = absurd (cc)
  sheet_refusal is (Err sheets.Memory) refusal e = let same : Memory ≡ refusal = cc in subst May same tt
  sheet_refusal is (Err sheets.Text) refusal e = let same : Sheet sheets.Text ≡ refusal = cc in subst May same (is, λ m. absurd (cc))
  sheet_refusal is (Err (sheets.Unknown place)) refusal e = let same : Sheet (sheets.Unknown place) ≡ refusal = cc in subst May same (is, λ m. absurd (cc))
  sheet_refusal is (Err (sheets.Missing place field)) refusal e = let same : Sheet (sheets.Missing place field) ≡ refusal =
      cc in subst May same (is, λ m. absurd (cc))
  sheet_refusal is (Err (sheets.Kind place field)) refusal e = let same : Sheet (sheets.Kind place field) ≡ refusal =
      cc in subst May same (is, λ m. absurd (cc))
  sheet_refusal is (Err (sheets.Range place field)) refusal e = let same : Sheet (sheets.Range place field) ≡ refusal =
      cc in subst May same (is, λ m. absurd (cc))
  sheet_refusal is (Err (sheets.Order place field)) refusal e = let same : Sheet (sheets.Order place field) ≡ refusal =
      cc in subst May same (is, λ m. absurd (cc))
  sheet_refusal is (Err sheets.Mixed) refusal e = let same : Sheet sheets.Mixed ≡ refusal = cc in subst May same (is, λ m. absurd (cc))
  sheet_refusal is (Err (sheets.Both task)) refusal e = let same : Sheet (sheets.Both task) ≡ refusal = cc in subst May same (is, λ m. absurd (cc))
  sheet_refusal is (Err (sheets.Twice task)) refusal e = let same : Sheet (sheets.Twice task) ≡ refusal = cc in subst May same (is, λ m. absurd (cc))
  sheet_refusal is (Err (sheets.Sum task)) refusal e = let same : Sheet (sheets.Sum task) ≡ refusal = cc in subst May same (is, λ m. absurd (cc))

  may_sheet : IsRead source.Sheet → (name : List ℕ) (before now : ShelfAt) (refusal : Refusal) → ReadsSheet name before now (Err refusal) → May refusal
  may_sheet is name before now refusal sheet =
      may_reads source.Sheet name (λ bytes. Gives (sheet_by bytes)) before now refusal is
      (λ bytes gives. may_by (sheet_by bytes) refusal (λ other e. sheet_refusal is _ other e) gives) sheet

  -- a refusal of what was read
  may_of : (IsText : Source → Type 0) → ((which : Source) → IsText which → IsRead which × (which ≢ source.Sheet)) →
      (refusal : Refusal) → IsOf IsText IsOwn refusal → May refusal
  may_of IsText read Usage of = absurd of
  may_of IsText read (Read which) of = absurd of
  may_of IsText read (Sheet refusal) of = absurd of
  may_of IsText read (Text which line) of = read which of
  may_of IsText read (Limit which) of = absurd of
  may_of IsText read (Points name) of = of
  may_of IsText read Jobs of = of
  may_of IsText read Segments of = of
  may_of IsText read LongUpgrade of = of
  may_of IsText read Memory of = tt

  module _ (is : IsRead source.Sheet) (name : List ℕ) (Ends : SheetParts → Ending → Type 0) (before now : ShelfAt)
      (refusal : Refusal) (may : (parts : SheetParts) → Ends parts (Err refusal) → May refusal) where
    may_one_by : (gave : Result SheetParts Refusal) → ReadsSheet name before now gave → After Ends gave (Err refusal) → May refusal
    may_one_by (Ok parts) sheet after = may parts after
    may_one_by (Err other) sheet after = let same : other ≡ refusal = cc in subst May same (may_sheet is name before now other sheet)

    may_one : OneFile name Ends before now (Err refusal) → May refusal
    may_one one = may_one_by one.gave one.sheet one.after

-- the other file is read only where the bytes of the first are a sheet
module _ (IsOwn : Refusal → Type 0) (sheet_name : List ℕ) (which : Source) (name : List ℕ) (Ends : SheetParts → List ℕ → Ending →
    Type 0) (before now : ShelfAt) (refusal : Refusal) where
  abbrev IsEither : Source → Type 0
  IsEither at = IsSheetOr which sheet_name before.files at

  abbrev MayTwo : Refusal → Type 0
  MayTwo one = MayRefuse IsEither IsOwn one

  may_two_by : ((parts : SheetParts) (bytes : List ℕ) → IsEither which → Ends parts bytes (Err refusal) → MayTwo refusal) →
      (middle : ShelfAt) (gave : Result SheetParts Refusal) → ReadsSheet sheet_name before middle gave →
      ReadsNext which name Ends gave middle now (Err refusal) → MayTwo refusal
  may_two_by may middle (Ok parts) sheet next =
      let is : IsEither which =
      inr (
        refl,
        if_told_map before.files (λ x. sheet_in sheet_name x ≡ Ok parts) _ (λ x e. rw e refl)
            (sheet_found sheet_name before middle (Ok parts) sheet),
      ) in
      may_reads IsEither IsOwn which name (Ends parts) middle now refusal is (λ bytes ends. may parts bytes is ends) next
  may_two_by may middle (Err other) sheet next =
      let same : other ≡ refusal = cc (next.1) in
      subst MayTwo same (may_sheet IsEither IsOwn (inl refl) sheet_name before middle other sheet)

  may_two : ((parts : SheetParts) (bytes : List ℕ) → IsEither which → Ends parts bytes (Err refusal) → MayTwo refusal) →
      TwoFiles sheet_name which name Ends before now (Err refusal) → MayTwo refusal
  may_two may two = may_two_by may two.middle two.gave two.sheet two.next

-- the refusal is one that the command can give
plan_may : (plan : Plan) (before now : ShelfAt) (refusal : Refusal) → PlanDoes plan before now (Err refusal) → PlanMayFail plan before.files refusal
plan_may (Alone IsOwn work) before now refusal does = may_of NoSource IsOwn NoText (λ at text. absurd text) refusal does.does.refused
plan_may (OverFile which name IsOwn work) before now refusal does =
    may_reads (IsThis which) IsOwn which name _ before now refusal refl
    (λ bytes judges. may_of (IsThis which) IsOwn (IsTextOf which) (λ at text. text) refusal judges.refused) does
plan_may (OverSheet name IsOwn work) before now refusal does =
    may_one IsSheet IsOwn refl name _ before now refusal (λ parts judges. may_of IsSheet IsOwn NoText (λ at text. absurd text) refusal judges.refused) does
plan_may (OverBoth sheet which name IsOwn work) before now refusal does =
    may_two IsOwn sheet which name _ before now refusal
    (λ parts bytes is judges. may_of (IsSheetOr which sheet before.files) IsOwn (IsTextOf which)
    (λ at text. (subst (IsSheetOr which sheet before.files) (sym text.0) is, text.1)) refusal judges.refused)
    does

pub does_may : (asked : Option Asked) (before now : ShelfAt) (ending : Ending) → Does asked before now ending → IfErr ending (MayFail asked before.files)
does_may asked before now (Ok print) does = tt
does_may None before now (Err refusal) does = let same : refusal ≡ Usage = cc (does.does) in same
does_may (Some asked) before now (Err refusal) does = plan_may (plan_of asked) before now refusal does

-- no command gives the usage line
plan_no_usage : (plan : Plan) (told : Option Files) → PlanMayFail plan told Usage → ⊥
plan_no_usage (Alone IsOwn work) told may = may
plan_no_usage (OverFile which name IsOwn work) told may = may
plan_no_usage (OverSheet name IsOwn work) told may = may
plan_no_usage (OverBoth sheet which name IsOwn work) told may = may

-- the usage line is the answer exactly where no command is asked for
pub does_usage : (asked : Option Asked) (before now : ShelfAt) (ending : Ending) → Does asked before now ending → (ending ≡ Err Usage) ↔ (asked ≡ None)
does_usage None before now ending does = (λ e. refl, λ e. does.does)
does_usage (Some one) before now ending does = (
  λ e. absurd (plan_no_usage (plan_of one) before.files
      (subst (λ x. IfErr x (MayFail (Some one) before.files)) e (does_may (Some one) before now ending does))),
  λ e. absurd (cc),
)
