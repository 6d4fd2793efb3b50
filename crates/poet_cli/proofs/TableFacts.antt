-- What the headline says of a sheet whose bytes have a time table.
use Rattle.std.proofs.Common.{◌≡◌, ℕ, Bool, true, false, List, map, Option, Some, None, refl, sym, subst, ap, ◌∙◌}
use Rattle.poet_io.specs.declared.log.Event.{Event}
use Rattle.poet_io.specs.Shelves.{Files}
use Rattle.task_sheet.specs.declared.tasks.SupplySpec.{SupplySpec}
use Rattle.task_sheet.specs.SheetParts.{SheetParts}
use Rattle.supply.specs.Promises.{sbf_of}
use Rattle.supply_table.specs.TableParts.{TableParts}
use Rattle.supply_table.specs.Validity.{IsTable}
use Rattle.supply_table.proofs.LawFacts.{supplies}
use Rattle.sheet_text.specs.TableRows.{implied_by}
use Rattle.sheet_text.specs.SupplyRows.{HasTable}
use Rattle.sheet_text.proofs.TableFacts.{sheet_of_table}
use Rattle.certificate.specs.declared.cert.Cert.{Cert}
use Rattle.policy_more.specs.Meanings.{meaning_of}
use Rattle.preemption.specs.Kinds.{per_task_meaning}
use Rattle.run_model.specs.declared.run.Run.{Run}
use Rattle.run_model.specs.Runs.{job_at}
use Rattle.schedule_laws.specs.Compliance.{IsSupplied, IsCompliant}
use Rattle.schedule_laws.specs.Bounded.{AreBounded}
use Rattle.cert_check.specs.Verdicts.{bounds_of, AreInTime}
use Rattle.poet_text.specs.declared.refusal.Source.TheVariants as source
use Rattle.assign.specs.Sheets.{sheet_by}
use Rattle.assign.specs.Assignment.{priority_in}
use Rattle.poet_text.specs.Words.{Asked, CheckOf, AnalyseOf, SimulateOf, AuditOf, ReportOf, ExerciseOf, UpgradeOf, AssignOf, PromiseOf, InferOf}
use Rattle.poet_text.specs.PromisePrinting.{promise_text}
use Rattle.poet_cli.specs.AssignAnswers.{OrderHolds}
use Rattle.poet_cli.specs.Headline.{BoundsHold}
use Rattle.poet_cli.specs.Analyses.{BestHolds}
use Rattle.poet_cli.specs.Origins.{OfOneFile, OfTwoFiles, WasPrinted}
use Rattle.poet_cli.specs.Program.{Headline}
use Rattle.poet_cli.specs.TableHeadline.{KeepsTable, AreBoundedBy, AreInTimeBy, BoundsHoldBy, BestHoldsBy, OrderHoldsBy, JudgedBy, TableHeadline}

module _ (table : TableParts) (sheet : SheetParts) (is : (sheet.supply ≡ implied_by table) × IsTable table) where
  -- ticks that follow the table are supplied as the sheet promises, so the run complies
  complies : (run : Run) → KeepsTable sheet table run →
      IsCompliant (meaning_of sheet.policy) per_task_meaning (sbf_of sheet.supply) sheet run
  complies run keeps =
      let by_table : IsSupplied (sbf_of (implied_by table)) run = supplies table keeps.phase run is.1 keeps.follows in
      record {
        valid = keeps.valid;
        curves = keeps.curves;
        supplied = subst (λ (s : SupplySpec). IsSupplied (sbf_of s) run) (sym is.0) by_table;
        conserving = keeps.conserving;
        segments = keeps.segments;
        policy = keeps.policy;
      }

  bounded_by : (bounds : List ℕ) → AreBounded (meaning_of sheet.policy) per_task_meaning (sbf_of sheet.supply) sheet bounds →
      AreBoundedBy sheet table bounds
  bounded_by bounds bounded = λ run keeps j l within.
      bounded (job_at run j).task ((keeps.valid.jobs j l).task) run (complies run keeps) j l refl within

  in_time_by : (deadlines : Bool) → AreInTime (meaning_of sheet.policy) per_task_meaning (sbf_of sheet.supply) sheet deadlines →
      AreInTimeBy sheet table deadlines
  in_time_by false in_time = tt
  in_time_by true in_time = bounded_by _ in_time

  bounds_by : (deadlines : Bool) (print : SheetParts → Cert → List ℕ) (bytes text : List ℕ) → BoundsHold sheet deadlines print bytes text →
      BoundsHoldBy table sheet deadlines print bytes text
  bounds_by deadlines print bytes text holds =
      record {
        cert = holds.cert;
        reads = holds.reads;
        count = holds.count;
        bounded = bounded_by (bounds_of holds.cert) holds.bounded;
        in_time = in_time_by deadlines holds.in_time;
        printed = holds.printed;
      }

  best_by : (horizon : ℕ) (text : List ℕ) → BestHolds sheet horizon text → BestHoldsBy table sheet horizon text
  best_by horizon text holds =
      record {
        cert = holds.cert;
        best = holds.best;
        bounded = bounded_by (bounds_of holds.cert) holds.holds.sound.bounded;
        printed = holds.printed;
      }

-- the sheet of other priorities has the same table
order_by : (table : TableParts) (sheet : SheetParts) → (sheet.supply ≡ implied_by table) × IsTable table → (horizon : ℕ) (text : List ℕ) →
    OrderHolds sheet horizon text → OrderHoldsBy table sheet text
unfolding sheet_by
order_by table sheet is horizon text holds =
    record {
      places = holds.places;
      order = holds.order;
      in_time = holds.in_time;
      bounded = bounded_by table (sheet_by sheet (priority_in holds.places)) is (map (λ p. p.bound) holds.places) holds.bounded;
      printed = holds.printed;
    }

module _ (told : Option Files) (before now : List Event) (text : List ℕ) where
  judged_by : (sheet certificate : List ℕ) (deadlines : Bool) (print : SheetParts → Cert → List ℕ) →
      OfTwoFiles sheet source.Certificate certificate told before now
      (λ sheet_bytes parts bytes. BoundsHold parts deadlines print bytes text) →
      JudgedBy print deadlines sheet certificate told before now text
  judged_by sheet certificate deadlines print two =
      record {
        sheet_bytes = two.sheet_bytes;
        middle = two.middle;
        sheet_read = two.sheet_read;
        sheet = two.sheet;
        is_sheet = two.is_sheet;
        bytes = two.bytes;
        read = two.read;
        holds = λ table has. bounds_by table two.sheet (sheet_of_table two.sheet_bytes table two.sheet has two.is_sheet)
            deadlines print two.bytes text two.holds;
      }

  one_by : (name : List ℕ) (Holds : SheetParts → Type 0) (By : TableParts → SheetParts → Type 0) →
      ((table : TableParts) (sheet : SheetParts) → (sheet.supply ≡ implied_by table) × IsTable table → Holds sheet → By table sheet) →
      OfOneFile name told before now (λ bytes parts. Holds parts) →
      OfOneFile name told before now (λ bytes parts. (table : TableParts) → HasTable bytes table → By table parts)
  one_by name Holds By from one =
      record {
        bytes = one.bytes;
        read = one.read;
        sheet = one.sheet;
        is_sheet = one.is_sheet;
        holds = λ table has. from table one.sheet (sheet_of_table one.bytes table one.sheet has one.is_sheet) one.holds;
      }

  pub table_headline : (asked : Option Asked) → Headline asked told before now text → TableHeadline asked told before now text
  table_headline None headline = headline
  table_headline (Some (CheckOf sheet certificate deadlines)) headline = judged_by sheet certificate deadlines _ headline
  table_headline (Some (ReportOf sheet certificate form)) headline = judged_by sheet certificate false _ headline
  table_headline (Some (AnalyseOf sheet horizon)) headline =
      one_by sheet (λ parts. BestHolds parts horizon text) (λ table parts. BestHoldsBy table parts horizon text)
      (λ table parts is holds. best_by table parts is horizon text holds) headline
  table_headline (Some (PromiseOf sheet)) headline =
      one_by sheet (λ parts. text ≡ promise_text parts.supply) (λ table parts. text ≡ promise_text (implied_by table))
      (λ table parts is holds. holds ∙ ap promise_text is.0) headline
  table_headline (Some (AssignOf sheet horizon)) headline =
      one_by sheet (λ parts. OrderHolds parts horizon text) (λ table parts. OrderHoldsBy table parts text)
      (λ table parts is holds. order_by table parts is horizon text holds) headline
  table_headline (Some (SimulateOf sheet mode ticks)) headline = tt
  table_headline (Some (AuditOf sheet run)) headline = tt
  table_headline (Some (ExerciseOf seed tasks)) headline = tt
  table_headline (Some (UpgradeOf sheet certificate)) headline = tt
  table_headline (Some (InferOf trace horizon)) headline = tt

-- the clause `table_headline`
pub table_told : (asked : Option Asked) (told : Option Files) (before now : List Event) (old new : List ℕ) →
    WasPrinted old new (Headline asked told before now) → WasPrinted old new (TableHeadline asked told before now)
table_told asked told before now old new printed =
    record {
      text = printed.text;
      written = printed.written;
      holds = table_headline told before now printed.text asked printed.holds;
    }
