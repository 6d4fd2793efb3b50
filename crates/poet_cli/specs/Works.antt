-- What each command makes of what it read: its answer, and what its text says.
use Rattle.std.specs.Prelude.{ℕ, Bool, List, IfOk, IfErr}
use Rattle.task_sheet.specs.SheetParts.{SheetParts}
use Rattle.certificate.specs.declared.cert.Cert.{Cert}
use Rattle.simulated_run.specs.declared.mode.Mode.{Mode}
use Rattle.poet_text.specs.declared.refusal.Source.{Source}
use Rattle.poet_text.specs.declared.refusal.Source.TheVariants as source
use Rattle.poet_text.specs.declared.refusal.Refusal.{Refusal}
use Rattle.poet_text.specs.Endings.{Ending, IsSound}
use Rattle.poet_cli.specs.Answers.{judge_by, analyse_by}
use Rattle.poet_cli.specs.RunAnswers.{simulate_by, audit_by}
use Rattle.poet_cli.specs.CurveAnswers.{infer_by, InferenceHolds}
use Rattle.poet_cli.specs.ExerciseAnswers.{exercise_answer}
use Rattle.poet_cli.specs.UpgradeAnswers.{upgrade_of, upgrade_by, IsUpgrade, IsCountRefusal, UpgradeHolds, CountFails}
use Rattle.poet_cli.specs.AssignAnswers.{assign_by, OrderHolds, NoOrderHolds}
use Rattle.poet_cli.specs.PromiseAnswers.{promise_by, PromiseIsPrinted}
use Rattle.poet_cli.specs.Steps.{Gives}
use Rattle.poet_cli.specs.Refusing.{IsOf, NoText, IsTextOf, IsNoRefusal, IsPointsRefusal, IsRunRefusal, IsUpgradeRefusal}
use Rattle.poet_cli.specs.Analyses.{BestHolds, NoneHolds}
use Rattle.poet_cli.specs.Headline.{BoundsHold, SimulationHolds, RunHolds, ExerciseIsPrinted}
use Rattle.poet_cli.specs.Objections.{CertificateFails, RunFails, Never}

-- the answer, what the text says with status 0, and what with status 1
pub record Work : Type 1 where
  pub answer : Ending
  pub holds : List ℕ → Type 0
  pub fails : List ℕ → Type 0

abbrev pub work : Ending → (List ℕ → Type 0) → (List ℕ → Type 0) → Work
work answer holds fails = record { answer = answer; holds = holds; fails = fails }

-- each command's work
abbrev pub judge_work : (SheetParts → Cert → List ℕ) → Bool → SheetParts → List ℕ → Work
judge_work print deadlines sheet bytes =
    work (judge_by print deadlines sheet bytes) (BoundsHold sheet deadlines print bytes)
    (CertificateFails sheet deadlines bytes)

abbrev pub analyse_work : ℕ → SheetParts → Work
analyse_work horizon sheet =
    work (analyse_by horizon sheet) (BestHolds sheet horizon) (NoneHolds sheet horizon)

abbrev pub simulate_work : Mode → ℕ → SheetParts → Work
simulate_work mode ticks sheet =
    work (simulate_by mode ticks sheet) (SimulationHolds sheet mode ticks) Never

abbrev pub audit_work : SheetParts → List ℕ → Work
audit_work sheet bytes = work (audit_by sheet bytes) (RunHolds sheet bytes) (RunFails sheet bytes)

abbrev pub exercise_work : ℕ → ℕ → Work
exercise_work seed tasks =
    work (exercise_answer seed tasks) (ExerciseIsPrinted seed tasks) Never

abbrev pub upgrade_work : SheetParts → List ℕ → Work
upgrade_work sheet bytes =
    work (upgrade_by sheet bytes) (UpgradeHolds sheet bytes) (CountFails sheet bytes)

abbrev pub assign_work : ℕ → SheetParts → Work
assign_work horizon sheet =
    work (assign_by horizon sheet) (OrderHolds sheet horizon) (NoOrderHolds sheet horizon)

abbrev pub promise_work : SheetParts → Work
promise_work sheet = work (promise_by sheet) (PromiseIsPrinted sheet) Never

abbrev pub infer_work : ℕ → List ℕ → Work
infer_work horizon bytes = work (infer_by horizon bytes) (InferenceHolds horizon bytes) Never

-- the ending is the answer, or want of memory; what is printed is true; and a refusal is one of these
pub record Judges (IsText : Source → Type 0) (IsOwn : Refusal → Type 0) (work : Work)
    (ending : Ending) : Type 0 where
  pub gives : Gives work.answer ending
  pub sound : IfOk ending (IsSound work.holds work.fails)
  pub refused : IfErr ending (IsOf IsText IsOwn)

-- the work over a certificate that was read
abbrev pub UpgradeDoesOf : SheetParts → Cert → Ending → Type 0
UpgradeDoesOf sheet cert =
    Judges (IsTextOf source.Certificate) IsUpgradeRefusal
    (work (upgrade_of sheet cert) (IsUpgrade sheet cert) (IsCountRefusal sheet cert))

-- what each command does with what it read
abbrev pub JudgeDoes : (SheetParts → Cert → List ℕ) → Bool → SheetParts → List ℕ → Ending → Type 0
JudgeDoes print deadlines sheet bytes =
    Judges (IsTextOf source.Certificate) IsNoRefusal (judge_work print deadlines sheet bytes)

abbrev pub AnalyseDoes : ℕ → SheetParts → Ending → Type 0
AnalyseDoes horizon sheet = Judges NoText IsPointsRefusal (analyse_work horizon sheet)

abbrev pub SimulateDoes : Mode → ℕ → SheetParts → Ending → Type 0
SimulateDoes mode ticks sheet = Judges NoText IsRunRefusal (simulate_work mode ticks sheet)

abbrev pub AuditDoes : SheetParts → List ℕ → Ending → Type 0
AuditDoes sheet bytes = Judges (IsTextOf source.Run) IsNoRefusal (audit_work sheet bytes)

abbrev pub ExerciseDoes : ℕ → ℕ → Ending → Type 0
ExerciseDoes seed tasks = Judges NoText IsNoRefusal (exercise_work seed tasks)

abbrev pub UpgradeDoes : SheetParts → List ℕ → Ending → Type 0
UpgradeDoes sheet bytes =
    Judges (IsTextOf source.Certificate) IsUpgradeRefusal (upgrade_work sheet bytes)

abbrev pub AssignDoes : ℕ → SheetParts → Ending → Type 0
AssignDoes horizon sheet = Judges NoText IsNoRefusal (assign_work horizon sheet)

abbrev pub PromiseDoes : SheetParts → Ending → Type 0
PromiseDoes sheet = Judges NoText IsNoRefusal (promise_work sheet)

abbrev pub InferDoes : ℕ → List ℕ → Ending → Type 0
InferDoes horizon bytes = Judges (IsTextOf source.Trace) IsNoRefusal (infer_work horizon bytes)
