-- What status 0 says of a sheet whose bytes have a time table: of the runs whose ticks follow it.
use Rattle.std.specs.Prelude.{◌≡◌, ℕ, ◌+◌, ◌<◌, ◌≤◌, Bool, true, false, List, map, length, slice_index_or, Option, Some, None, Ok}
use Rattle.poet_io.specs.declared.log.Event.{Event}
use Rattle.poet_io.specs.Shelves.{Files}
use Rattle.poet_io.specs.Texts.{Parses}
use Rattle.task_sheet.specs.SheetParts.{SheetParts}
use Rattle.supply_table.specs.TableParts.{TableParts}
use Rattle.supply_table.specs.Laws.{Follows}
use Rattle.sheet_text.specs.TableRows.{implied_by}
use Rattle.sheet_text.specs.SupplyRows.{HasTable}
use Rattle.certificate.specs.declared.cert.Cert.{Cert}
use Rattle.certificate.specs.Text.{cert_format, text_of}
use Rattle.policy_more.specs.Meanings.{meaning_of}
use Rattle.preemption.specs.Kinds.{per_task_meaning}
use Rattle.run_model.specs.declared.run.Run.{Run}
use Rattle.run_model.specs.Runs.{job_at, IsDone}
use Rattle.schedule_laws.specs.Compliance.{IsValidRun, IsWithinCurves, IsWorkConserving, KeepsSegments, KeepsPolicy}
use Rattle.cert_check.specs.Verdicts.{bounds_of}
use Rattle.poet_text.specs.declared.refusal.Source.TheVariants as source
use Rattle.assign.specs.declared.assignment.Placed.{Placed}
use Rattle.assign.specs.Sheets.{sheet_by}
use Rattle.assign.specs.Assignment.{priority_in, IsOrder, AreInTime}
use Rattle.poet_text.specs.Words.{Asked, CheckOf, AnalyseOf, SimulateOf, AuditOf, ReportOf, ExerciseOf, UpgradeOf, AssignOf, PromiseOf, InferOf}
use Rattle.poet_text.specs.PromisePrinting.{promise_text}
use Rattle.poet_cli.specs.Answers.{best_for}
use Rattle.poet_cli.specs.ReportAnswers.{report_of}
use Rattle.poet_cli.specs.AssignAnswers.{assigned_text}
use Rattle.poet_cli.specs.Headline.{accepted_for}
use Rattle.poet_cli.specs.Origins.{OfOneFile, OfTwoFiles}

-- a run that keeps every rule of the sheet but for its supply, and whose ticks follow the table from some phase on
pub record KeepsTable (sheet : SheetParts) (table : TableParts) (run : Run) : Type 0 where
  pub valid : IsValidRun per_task_meaning sheet run
  pub curves : IsWithinCurves sheet run
  pub conserving : IsWorkConserving run
  pub segments : KeepsSegments per_task_meaning sheet run
  pub policy : KeepsPolicy (meaning_of sheet.policy) per_task_meaning sheet run
  pub phase : ℕ
  pub follows : Follows table phase run

-- in every such run every job whose arrival plus its task's bound lies within the run is done by then
abbrev pub AreBoundedBy : SheetParts → TableParts → List ℕ → Type 0
AreBoundedBy sheet table bounds =
    (run : Run) → KeepsTable sheet table run → (j : ℕ) → j < length run.jobs →
    (job_at run j).arrival + slice_index_or bounds (job_at run j).task 0 ≤ length run.ticks →
    IsDone run j ((job_at run j).arrival + slice_index_or bounds (job_at run j).task 0)

-- where deadlines are judged, the same holds of the tasks' deadlines
abbrev pub AreInTimeBy : SheetParts → TableParts → Bool → Type 0
AreInTimeBy sheet table false = Unit {0}
AreInTimeBy sheet table true = AreBoundedBy sheet table (map (λ t. t.deadline) sheet.tasks)

-- the bytes are a certificate, whose bounds hold so; and the text is printed of it
pub record BoundsHoldBy (table : TableParts) (sheet : SheetParts) (deadlines : Bool)
    (print : SheetParts → Cert → List ℕ) (bytes text : List ℕ) : Type 0 where
  pub cert : Cert
  pub reads : Parses cert_format bytes cert
  pub count : length cert.entries ≡ length sheet.tasks
  pub bounded : AreBoundedBy sheet table (bounds_of cert)
  pub in_time : AreInTimeBy sheet table deadlines
  pub printed : text ≡ print sheet cert

-- the bounds of the best certificate hold so; and the text is this certificate's
pub record BestHoldsBy (table : TableParts) (sheet : SheetParts) (horizon : ℕ) (text : List ℕ)
    : Type 0 where
  pub cert : Cert
  pub best : best_for sheet horizon ≡ Ok cert
  pub bounded : AreBoundedBy sheet table (bounds_of cert)
  pub printed : text ≡ text_of cert

-- the tasks have the priorities 1 to n; the bounds, which are at most the deadlines, hold so in the sheet of these
-- priorities; and the text tells the places
pub record OrderHoldsBy (table : TableParts) (sheet : SheetParts) (text : List ℕ) : Type 0 where
  pub places : List Placed
  pub order : IsOrder (length sheet.tasks) places
  pub in_time : AreInTime sheet places
  pub bounded : AreBoundedBy (sheet_by sheet (priority_in places)) table (map (λ p. p.bound) places)
  pub printed : text ≡ assigned_text sheet places

-- of two files that were read
abbrev pub JudgedBy : (SheetParts → Cert → List ℕ) → Bool → List ℕ → List ℕ → Option Files →
    List Event → List Event → List ℕ → Type 0
JudgedBy print deadlines sheet certificate told before now text =
    OfTwoFiles sheet source.Certificate certificate told before now
    (λ sheet_bytes parts bytes. (table : TableParts) → HasTable sheet_bytes table →
    BoundsHoldBy table parts deadlines print bytes text)

-- what status 0 says where the bytes of the sheet have a time table; of upgrade, of simulate and audit, which go by the
-- promise, and of exercise and infer, which read no sheet, it says no more than the headline
abbrev pub TableHeadline : Option Asked → Option Files → List Event → List Event → List ℕ → Type 0
TableHeadline None told before now text = ⊥
TableHeadline (Some (CheckOf sheet certificate deadlines)) told before now text =
    JudgedBy accepted_for deadlines sheet certificate told before now text
TableHeadline (Some (ReportOf sheet certificate form)) told before now text =
    JudgedBy (report_of form) false sheet certificate told before now text
TableHeadline (Some (AnalyseOf sheet horizon)) told before now text =
    OfOneFile sheet told before now
    (λ bytes parts. (table : TableParts) → HasTable bytes table → BestHoldsBy table parts horizon text)
TableHeadline (Some (PromiseOf sheet)) told before now text =
    OfOneFile sheet told before now
    (λ bytes parts. (table : TableParts) → HasTable bytes table → text ≡ promise_text (implied_by table))
TableHeadline (Some (AssignOf sheet horizon)) told before now text =
    OfOneFile sheet told before now
    (λ bytes parts. (table : TableParts) → HasTable bytes table → OrderHoldsBy table parts text)
TableHeadline (Some (SimulateOf sheet mode ticks)) told before now text = Unit {0}
TableHeadline (Some (AuditOf sheet run)) told before now text = Unit {0}
TableHeadline (Some (ExerciseOf seed tasks)) told before now text = Unit {0}
TableHeadline (Some (UpgradeOf sheet certificate)) told before now text = Unit {0}
TableHeadline (Some (InferOf trace horizon)) told before now text = Unit {0}
