-- What a command ends with, where the shelf tells its files.
use Rattle.std.proofs.Common.{◌≡◌, ◌<◌, ◌≤◌, ◌⊎◌, inl, inr, ℕ, List, length, Option, Some, None, Result, Ok, Err, nat_le, true, false}
use Rattle.std.proofs.Common.{refl, ap, subst, ◌∙◌, arith}
use Rattle.std.proofs.lemmas.Bool.Decides.{nat_tests}
use Rattle.poet_io.specs.Faults.{Rose}
use Rattle.poet_io.specs.Shelves.{Files, IfTold, IsTold}
use Rattle.poet_io.proofs.Telling.{if_told_map, if_told_map_two, is_told_map, is_told_map_two, if_told_any, rose_from}
use Rattle.task_sheet.specs.SheetParts.{SheetParts}
use Rattle.poet_text.specs.declared.refusal.Source.{Source}
use Rattle.poet_text.specs.declared.refusal.Source.TheVariants as source
use Rattle.poet_text.specs.declared.refusal.Refusal.{Refusal}
use Rattle.poet_text.specs.declared.refusal.Refusal.TheVariants.{Usage, Read, Sheet, Text, Limit, Points, Jobs, Segments, LongUpgrade, Memory}
use Rattle.poet_text.specs.Refusals.{limit_of}
use Rattle.poet_text.specs.Endings.{Ending, next}
use Rattle.poet_text.specs.Words.{Asked}
use Rattle.poet_cli.specs.Answers.{within, file_in, sheet_by, sheet_in}
use Rattle.poet_cli.specs.Readings.{ShelfAt, IsLongerThan, IsFileReading}
use Rattle.poet_cli.specs.Steps.{Gives, After, Reads, ReadsSheet, OneFile, ReadsNext, TwoFiles}
use Rattle.poet_cli.specs.Program.{Plan, Alone, OverFile, OverSheet, OverBoth, over_sheet, over_both, plan_of, plan_answer, PlanDoes, answer_of, Does}

-- why a step was refused, where its answer is this function of the files
abbrev pub Denied : {A : Type 0} → (Files → Result A Refusal) → Option Files → ℕ → ℕ → Refusal → Type 0
Denied answer told before now Usage = IfTold told (λ files. answer files ≡ Err Usage)
Denied answer told before now (Read which) = Rose before now ⊎ IsTold told (λ files. answer files ≡ Err (Read which))
Denied answer told before now (Sheet refusal) = IfTold told (λ files. answer files ≡ Err (Sheet refusal))
Denied answer told before now (Text which line) = IfTold told (λ files. answer files ≡ Err (Text which line))
Denied answer told before now (Limit which) = IfTold told (λ files. answer files ≡ Err (Limit which))
Denied answer told before now (Points name) = IfTold told (λ files. answer files ≡ Err (Points name))
Denied answer told before now Jobs = IfTold told (λ files. answer files ≡ Err Jobs)
Denied answer told before now Segments = IfTold told (λ files. answer files ≡ Err Segments)
Denied answer told before now LongUpgrade = IfTold told (λ files. answer files ≡ Err LongUpgrade)
Denied answer told before now Memory = Unit {0}

-- what a step gives, where its answer is this function of the files
abbrev pub Found : {A : Type 0} → (Files → Result A Refusal) → Option Files → ℕ → ℕ → Result A Refusal → Type 0
Found answer told before now (Ok a) = IfTold told (λ files. answer files ≡ Ok a)
Found answer told before now (Err refusal) = Denied answer told before now refusal

module _ {A : Type 0} (answer : Files → Result A Refusal) (one : Result A Refusal) (told : Option Files) (f g : ℕ) where
  -- the files have this answer
  given : (result : Result A Refusal) → IfTold told (λ x. answer x ≡ one) → Gives one result → Found answer told f g result
  given (Ok a) h e = if_told_map told _ _ (λ x s. s ∙ e) h
  given (Err Usage) h e = absurd e
  given (Err (Read which)) h e = absurd e
  given (Err (Sheet refusal)) h e = if_told_map told _ _ (λ x s. s ∙ e) h
  given (Err (Text which line)) h e = if_told_map told _ _ (λ x s. s ∙ e) h
  given (Err (Limit which)) h e = if_told_map told _ _ (λ x s. s ∙ e) h
  given (Err (Points name)) h e = if_told_map told _ _ (λ x s. s ∙ e) h
  given (Err Jobs) h e = if_told_map told _ _ (λ x s. s ∙ e) h
  given (Err Segments) h e = if_told_map told _ _ (λ x s. s ∙ e) h
  given (Err LongUpgrade) h e = if_told_map told _ _ (λ x s. s ∙ e) h
  given (Err Memory) h e = tt

module _ {A B : Type 0} (first : Files → Result A Refusal) (rest : A → Files → Result B Refusal) (told : Option Files) where
  abbrev Whole : Files → Result B Refusal
  Whole x = next (first x) (λ a. rest a x)

  -- the first step was refused
  found_not : (f g : ℕ) (refusal : Refusal) → Denied first told f g refusal → Denied Whole told f g refusal
  found_not f g Usage d = if_told_map told _ _ (λ x s. rw s refl) d
  found_not f g (Read which) d = elim d [ inl rose ↦ inl rose | inr t ↦ inr (is_told_map told _ _ (λ x s. rw s refl) t) ]
  found_not f g (Sheet refusal) d = if_told_map told _ _ (λ x s. rw s refl) d
  found_not f g (Text which line) d = if_told_map told _ _ (λ x s. rw s refl) d
  found_not f g (Limit which) d = if_told_map told _ _ (λ x s. rw s refl) d
  found_not f g (Points name) d = if_told_map told _ _ (λ x s. rw s refl) d
  found_not f g Jobs d = if_told_map told _ _ (λ x s. rw s refl) d
  found_not f g Segments d = if_told_map told _ _ (λ x s. rw s refl) d
  found_not f g LongUpgrade d = if_told_map told _ _ (λ x s. rw s refl) d
  found_not f g Memory d = tt

  -- the first step gave this
  found_next : (f h g : ℕ) → f ≤ h → (a : A) → IfTold told (λ x. first x ≡ Ok a) → (result : Result B Refusal) →
      Found (rest a) told h g result → Found Whole told f g result
  found_next f h g le a is (Ok b) d = if_told_map_two told _ _ _ (λ x s t. rw s t) is d
  found_next f h g le a is (Err Usage) d = if_told_map_two told _ _ _ (λ x s t. rw s t) is d
  found_next f h g le a is (Err (Read which)) d =
      elim d [ inl rose ↦ inl (rose_from f h g le rose) | inr t ↦ inr (is_told_map_two told _ _ _ (λ x s u. rw s u) is t) ]
  found_next f h g le a is (Err (Sheet refusal)) d = if_told_map_two told _ _ _ (λ x s t. rw s t) is d
  found_next f h g le a is (Err (Text which line)) d = if_told_map_two told _ _ _ (λ x s t. rw s t) is d
  found_next f h g le a is (Err (Limit which)) d = if_told_map_two told _ _ _ (λ x s t. rw s t) is d
  found_next f h g le a is (Err (Points name)) d = if_told_map_two told _ _ _ (λ x s t. rw s t) is d
  found_next f h g le a is (Err Jobs) d = if_told_map_two told _ _ _ (λ x s t. rw s t) is d
  found_next f h g le a is (Err Segments) d = if_told_map_two told _ _ _ (λ x s t. rw s t) is d
  found_next f h g le a is (Err LongUpgrade) d = if_told_map_two told _ _ _ (λ x s t. rw s t) is d
  found_next f h g le a is (Err Memory) d = tt

pub within_few : (which : Source) (bytes : List ℕ) → length bytes ≤ limit_of which → within which (Some bytes) ≡ Ok bytes
within_few which bytes few = let e : nat_le (length bytes) (limit_of which) ≡ true = grind (arith, nat_tests) in rw e refl

within_many : (which : Source) (bytes : List ℕ) → limit_of which < length bytes → within which (Some bytes) ≡ Err (Limit which)
within_many which bytes many = let e : nat_le (length bytes) (limit_of which) ≡ false = grind (arith, nat_tests) in rw e refl

reading_found : (which : Source) (name : List ℕ) (before now : ShelfAt) (gave : Result (List ℕ) Refusal) →
    IsFileReading which name before now gave → Found (file_in which name) before.files before.faults now.faults gave
reading_found which name before now (Ok bytes) r = if_told_map before.files _ _ (λ x e. rw e (within_few which bytes r.calls.few)) r.calls.is_told
reading_found which name before now (Err (Read at)) r =
    let is : at ≡ which = r.calls.0 in
    elim r.calls.1.calls [ inl fault ↦ inl fault.1 | inr absent ↦ inr (is_told_map before.files _ _ (λ x e. rw is (ap (within which) e)) absent.1) ]
reading_found which name before now (Err (Limit at)) r =
    let is : at ≡ which = r.calls.0 in
    if_told_map before.files _ _ (λ x (l : IsLongerThan (limit_of which) name x). rw is (ap (within which) l.1 ∙ within_many which l.0 l.2)) r.calls.1.is_told
reading_found which name before now (Err Memory) r = tt
reading_found which name before now (Err Usage) r = absurd r.calls
reading_found which name before now (Err (Sheet refusal)) r = absurd r.calls
reading_found which name before now (Err (Text at line)) r = absurd r.calls
reading_found which name before now (Err (Points task)) r = absurd r.calls
reading_found which name before now (Err Jobs) r = absurd r.calls
reading_found which name before now (Err Segments) r = absurd r.calls
reading_found which name before now (Err LongUpgrade) r = absurd r.calls

module _ {A : Type 0} (which : Source) (name : List ℕ) (Ends : List ℕ → Result A Refusal → Type 0) (answer : List ℕ →
    Result A Refusal) (before now : ShelfAt) (result : Result A Refusal)
    (gives : (bytes : List ℕ) → Ends bytes result → Gives (answer bytes) result) where
  reads_by : (gave : Result (List ℕ) Refusal) → IsFileReading which name before now gave → After Ends gave result →
      Found (λ x. next (file_in which name x) answer) before.files before.faults now.faults result
  reads_by (Ok bytes) reading after =
      given (λ x. next (file_in which name x) answer) (answer bytes) before.files before.faults now.faults result
      (if_told_map before.files (λ x. file_in which name x ≡ Ok bytes) _ (λ x e. rw e refl)
      (reading_found which name before now (Ok bytes) reading)) (gives bytes after)
  reads_by (Err refusal) reading after =
      rw after (found_not (file_in which name) (λ bytes x. answer bytes) before.files before.faults now.faults refusal
      (reading_found which name before now (Err refusal) reading))

  pub reads_found : Reads which name Ends before now result → Found (λ x. next (file_in which name x) answer) before.files before.faults now.faults result
  reads_found reads = reads_by reads.gave reads.reading reads.after

pub sheet_found : (name : List ℕ) (before now : ShelfAt) (result : Result SheetParts Refusal) →
    ReadsSheet name before now result → Found (sheet_in name) before.files before.faults now.faults result
sheet_found name before now result reads =
    reads_found source.Sheet name (λ bytes. Gives (sheet_by bytes)) sheet_by before now result (λ bytes given. given) reads

module _ (name : List ℕ) (Ends : SheetParts → Ending → Type 0) (answer : SheetParts → Ending) (before now : ShelfAt)
    (ending : Ending) (gives : (parts : SheetParts) → Ends parts ending → Gives (answer parts) ending) where
  one_by : (gave : Result SheetParts Refusal) → ReadsSheet name before now gave → After Ends gave ending →
      Found (over_sheet name answer) before.files before.faults now.faults ending
  one_by (Ok parts) sheet after =
      given (over_sheet name answer) (answer parts) before.files before.faults now.faults ending
      (if_told_map before.files (λ x. sheet_in name x ≡ Ok parts) _ (λ x e. rw e refl) (sheet_found name before now (Ok parts) sheet)) (gives parts after)
  one_by (Err refusal) sheet after =
      rw after (found_not (sheet_in name) (λ parts x. answer parts) before.files before.faults now.faults refusal
      (sheet_found name before now (Err refusal) sheet))

  one_found : OneFile name Ends before now ending → Found (over_sheet name answer) before.files before.faults now.faults ending
  one_found one = one_by one.gave one.sheet one.after

module _ (sheet_name : List ℕ) (which : Source) (name : List ℕ) (Ends : SheetParts → List ℕ → Ending →
    Type 0) (answer : SheetParts → List ℕ → Ending) (before middle now : ShelfAt) (ending : Ending)
    (gives : (parts : SheetParts) (bytes : List ℕ) → Ends parts bytes ending → Gives (answer parts bytes) ending) where
  abbrev Rest : SheetParts → Files → Ending
  Rest parts x = next (file_in which name x) (answer parts)

  two_by : (gave : Result SheetParts Refusal) → ReadsSheet sheet_name before middle gave →
      ReadsNext which name Ends gave middle now ending → Found (over_both sheet_name which name answer) before.files before.faults now.faults ending
  two_by (Ok parts) sheet after =
      let found : Found (Rest parts) middle.files middle.faults now.faults ending =
      reads_found which name (Ends parts) (answer parts) middle now ending (gives parts) after in
      found_next (sheet_in sheet_name) Rest before.files before.faults middle.faults now.faults sheet.reading.later parts
      (sheet_found sheet_name before middle (Ok parts) sheet) ending
      (subst (λ told. Found (Rest parts) told middle.faults now.faults ending) sheet.reading.files found)
  two_by (Err refusal) sheet after =
      rw (after.1, after.0) (found_not (sheet_in sheet_name) Rest before.files before.faults middle.faults refusal
      (sheet_found sheet_name before middle (Err refusal) sheet))

pub two_found : (sheet_name : List ℕ) (which : Source) (name : List ℕ) (Ends : SheetParts → List ℕ → Ending →
    Type 0) (answer : SheetParts → List ℕ → Ending) (before now : ShelfAt) (ending : Ending) →
    ((parts : SheetParts) (bytes : List ℕ) → Ends parts bytes ending → Gives (answer parts bytes) ending) →
    TwoFiles sheet_name which name Ends before now ending →
    Found (over_both sheet_name which name answer) before.files before.faults now.faults ending
two_found sheet_name which name Ends answer before now ending gives two =
    two_by sheet_name which name Ends answer before two.middle now ending gives two.gave two.sheet two.next

none_found : (answer : Ending) (told : Option Files) (f g : ℕ) (ending : Ending) → Gives answer ending → Found (λ x. answer) told f g ending
none_found answer told f g ending gives = given (λ x. answer) answer told f g ending (if_told_any told _ (λ x. refl)) gives

-- the ending is the answer over the files, where they are told
plan_found : (plan : Plan) (before now : ShelfAt) (ending : Ending) → PlanDoes plan before now ending →
    Found (plan_answer plan) before.files before.faults now.faults ending
plan_found (Alone IsOwn work) before now ending does = none_found work.answer before.files before.faults now.faults ending does.does.gives
plan_found (OverFile which name IsOwn work) before now ending does =
    reads_found which name _ (λ bytes. (work bytes).answer) before now ending (λ bytes judges. judges.gives) does
plan_found (OverSheet name IsOwn work) before now ending does =
    one_found name _ (λ parts. (work parts).answer) before now ending (λ parts judges. judges.gives) does
plan_found (OverBoth sheet which name IsOwn work) before now ending does =
    two_found sheet which name _ (λ parts bytes. (work parts bytes).answer) before now ending (λ parts bytes judges. judges.gives) does

pub does_found : (asked : Option Asked) (before now : ShelfAt) (ending : Ending) → Does asked before now ending →
    Found (answer_of asked) before.files before.faults now.faults ending
does_found None before now ending does = rw does.does (if_told_any before.files _ (λ x. refl))
does_found (Some asked) before now ending does = plan_found (plan_of asked) before now ending does
