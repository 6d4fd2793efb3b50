-- The program: the table of its commands, and what follows from it.
use Rattle.std.specs.Prelude.{◌≡◌, ℕ, false, List, [], ◌∷◌, Option, Some, None, Err}
use Rattle.poet_io.specs.declared.log.Event.{Event}
use Rattle.poet_io.specs.Shelves.{Files}
use Rattle.task_sheet.specs.SheetParts.{SheetParts}
use Rattle.poet_text.specs.declared.refusal.Source.{Source}
use Rattle.poet_text.specs.declared.refusal.Source.TheVariants as source
use Rattle.poet_text.specs.declared.refusal.Refusal.{Refusal}
use Rattle.poet_text.specs.declared.refusal.Refusal.TheVariants.{Usage}
use Rattle.poet_text.specs.Words.{Asked, CheckOf, AnalyseOf, SimulateOf, AuditOf, ReportOf, ExerciseOf, UpgradeOf, AssignOf, PromiseOf, InferOf}
use Rattle.poet_text.specs.Endings.{Ending, next}
use Rattle.poet_cli.specs.Answers.{file_in, sheet_in}
use Rattle.poet_cli.specs.ReportAnswers.{report_of}
use Rattle.poet_cli.specs.Headline.{accepted_for}
use Rattle.poet_cli.specs.Readings.{ShelfAt}
use Rattle.poet_cli.specs.Steps.{Reads, NoFile, OneFile, TwoFiles}
use Rattle.poet_cli.specs.Origins.{OfFile, OfOneFile, OfTwoFiles}
use Rattle.poet_cli.specs.Refusing.{NoText, IsTextOf, IsNoRefusal, IsPointsRefusal, IsRunRefusal, IsUpgradeRefusal, MayRefuse, NoSource, IsThis, IsSheet, IsSheetOr}
use Rattle.poet_cli.specs.Works.{Work, judge_work, analyse_work, simulate_work, audit_work, exercise_work, upgrade_work, assign_work, promise_work, infer_work, Judges}

-- which files a command reads, the refusals of its own, and its work over what it read
pub data Plan : Type 1 where
  Alone : (Refusal → Type 0) → Work → Plan
  OverFile : Source → List ℕ → (Refusal → Type 0) → (List ℕ → Work) → Plan
  OverSheet : List ℕ → (Refusal → Type 0) → (SheetParts → Work) → Plan
  OverBoth : List ℕ → Source → List ℕ → (Refusal → Type 0) → (SheetParts → List ℕ → Work) → Plan

-- the commands
abbrev pub plan_of : Asked → Plan
plan_of (CheckOf sheet certificate deadlines) =
    OverBoth sheet source.Certificate certificate IsNoRefusal (judge_work accepted_for deadlines)
plan_of (AnalyseOf sheet horizon) = OverSheet sheet IsPointsRefusal (analyse_work horizon)
plan_of (SimulateOf sheet mode ticks) = OverSheet sheet IsRunRefusal (simulate_work mode ticks)
plan_of (AuditOf sheet run) = OverBoth sheet source.Run run IsNoRefusal audit_work
plan_of (ReportOf sheet certificate form) =
    OverBoth sheet source.Certificate certificate IsNoRefusal (judge_work (report_of form) false)
plan_of (ExerciseOf seed tasks) = Alone IsNoRefusal (exercise_work seed tasks)
plan_of (UpgradeOf sheet certificate) =
    OverBoth sheet source.Certificate certificate IsUpgradeRefusal upgrade_work
plan_of (AssignOf sheet horizon) = OverSheet sheet IsNoRefusal (assign_work horizon)
plan_of (PromiseOf sheet) = OverSheet sheet IsNoRefusal promise_work
plan_of (InferOf trace horizon) = OverFile source.Trace trace IsNoRefusal (infer_work horizon)

-- the files that it reads
abbrev pub plan_files : Plan → List (List ℕ)
plan_files (Alone IsOwn work) = []
plan_files (OverFile which name IsOwn work) = name ∷ []
plan_files (OverSheet name IsOwn work) = name ∷ []
plan_files (OverBoth sheet which name IsOwn work) = sheet ∷ name ∷ []

abbrev pub files_of : Option Asked → List (List ℕ)
files_of None = []
files_of (Some asked) = plan_files (plan_of asked)

-- its answer over the files of a shelf
abbrev pub over_file : Source → List ℕ → (List ℕ → Ending) → Files → Ending
over_file which name answer files = next (file_in which name files) answer

abbrev pub over_sheet : List ℕ → (SheetParts → Ending) → Files → Ending
over_sheet name answer files = next (sheet_in name files) answer

abbrev pub over_both : List ℕ → Source → List ℕ → (SheetParts → List ℕ → Ending) → Files → Ending
over_both sheet which name answer files =
    next (sheet_in sheet files) (λ parts. next (file_in which name files) (answer parts))

abbrev pub plan_answer : Plan → Files → Ending
plan_answer (Alone IsOwn work) files = work.answer
plan_answer (OverFile which name IsOwn work) files =
    over_file which name (λ bytes. (work bytes).answer) files
plan_answer (OverSheet name IsOwn work) files = over_sheet name (λ parts. (work parts).answer) files
plan_answer (OverBoth sheet which name IsOwn work) files =
    over_both sheet which name (λ parts bytes. (work parts bytes).answer) files

-- the answer of the program to what its words ask for, over these files
abbrev pub answer_of : Option Asked → Files → Ending
answer_of None files = Err Usage
answer_of (Some asked) files = plan_answer (plan_of asked) files

-- the files are read in their order and each at most once, and it ends by what they gave
abbrev pub PlanDoes : Plan → ShelfAt → ShelfAt → Ending → Type 0
PlanDoes (Alone IsOwn work) before now ending = NoFile (Judges NoText IsOwn work) before now ending
PlanDoes (OverFile which name IsOwn work) before now ending =
    Reads which name (λ bytes. Judges (IsTextOf which) IsOwn (work bytes)) before now ending
PlanDoes (OverSheet name IsOwn work) before now ending =
    OneFile name (λ parts. Judges NoText IsOwn (work parts)) before now ending
PlanDoes (OverBoth sheet which name IsOwn work) before now ending =
    TwoFiles sheet which name
    (λ parts bytes. Judges (IsTextOf which) IsOwn (work parts bytes)) before now ending

abbrev pub Does : Option Asked → ShelfAt → ShelfAt → Ending → Type 0
Does None before now ending = NoFile (λ one. one ≡ Err Usage) before now ending
Does (Some asked) before now ending = PlanDoes (plan_of asked) before now ending

-- which refusals it can give
abbrev pub PlanMayFail : Plan → Option Files → Refusal → Type 0
PlanMayFail (Alone IsOwn work) told refusal = MayRefuse NoSource IsOwn refusal
PlanMayFail (OverFile which name IsOwn work) told refusal = MayRefuse (IsThis which) IsOwn refusal
PlanMayFail (OverSheet name IsOwn work) told refusal = MayRefuse IsSheet IsOwn refusal
PlanMayFail (OverBoth sheet which name IsOwn work) told refusal =
    MayRefuse (IsSheetOr which sheet told) IsOwn refusal

abbrev pub MayFail : Option Asked → Option Files → Refusal → Type 0
MayFail None told refusal = refusal ≡ Usage
MayFail (Some asked) told refusal = PlanMayFail (plan_of asked) told refusal

-- what a text says of the bytes that were read, by this part of the work over them
abbrev pub PlanSays : (Work → List ℕ → Type 0) → Plan → Option Files → List Event → List Event →
    List ℕ → Type 0
PlanSays Part (Alone IsOwn work) told before now text = Part work text
PlanSays Part (OverFile which name IsOwn work) told before now text =
    OfFile which name told before now (λ bytes. Part (work bytes) text)
PlanSays Part (OverSheet name IsOwn work) told before now text =
    OfOneFile name told before now (λ sheet_bytes parts. Part (work parts) text)
PlanSays Part (OverBoth sheet which name IsOwn work) told before now text =
    OfTwoFiles sheet which name told before now
    (λ sheet_bytes parts bytes. Part (work parts bytes) text)

-- what status 0 says of the bytes that were read and of the text
abbrev pub Headline : Option Asked → Option Files → List Event → List Event → List ℕ → Type 0
Headline None told before now text = ⊥
Headline (Some asked) told before now text =
    PlanSays (λ work. work.holds) (plan_of asked) told before now text

-- what status 1 says of them; simulate, exercise, promise and infer never answer it
abbrev pub Objection : Option Asked → Option Files → List Event → List Event → List ℕ → Type 0
Objection None told before now text = ⊥
Objection (Some asked) told before now text =
    PlanSays (λ work. work.fails) (plan_of asked) told before now text
