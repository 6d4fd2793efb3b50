-- What status 0 says: of the bytes that were read, and of the text that was printed.
use Rattle.std.specs.Prelude.{◌≡◌, ℕ, Bool, List, length}
use Rattle.poet_io.specs.Texts.{Parses}
use Rattle.task_sheet.specs.SheetParts.{SheetParts}
use Rattle.certificate.specs.declared.cert.Cert.{Cert}
use Rattle.certificate.specs.Text.{cert_format}
use Rattle.policy_more.specs.Meanings.{meaning_of}
use Rattle.preemption.specs.Kinds.{per_task_meaning}
use Rattle.supply.specs.Promises.{sbf_of}
use Rattle.run_model.specs.declared.run.Run.{Run}
use Rattle.run_text.specs.Text.{run_format, text_of as run_text_of}
use Rattle.schedule_laws.specs.Compliance.{IsCompliant}
use Rattle.schedule_laws.specs.Bounded.{AreBounded}
use Rattle.simulated_run.specs.declared.mode.Mode.{Mode}
use Rattle.simulated_run.specs.declared.mode.Mode.TheVariants.{Dense}
use Rattle.simulated_run.specs.SimulatedRun.{simulated_run}
use Rattle.simulated_run.specs.Laws.{IsDense}
use Rattle.exercise.specs.Exercises.{exercise_of, ExerciseHolds}
use Rattle.cert_check.specs.Verdicts.{bounds_of, AreInTime}
use Rattle.poet_text.specs.declared.printed.Printed.TheVariants as printed
use Rattle.poet_text.specs.Printing.{accepted_text}
use Rattle.poet_text.specs.RunPrinting.{audit_print}
use Rattle.poet_cli.specs.RunAnswers.{world_for, audit_for}
use Rattle.poet_cli.specs.ExerciseAnswers.{exercise_line}

-- the accept text with the bounds of a certificate
abbrev pub accepted_for : SheetParts → Cert → List ℕ
accepted_for sheet cert = accepted_text sheet (bounds_of cert)

-- the bytes are a certificate, with a bound for each task, and in every run that complies with the sheet every
-- job whose arrival plus its task's bound lies within the run is done by then; where deadlines are judged, the
-- same holds of the tasks' deadlines; and the text is printed of this certificate
pub record BoundsHold (sheet : SheetParts) (deadlines : Bool) (print : SheetParts → Cert → List ℕ)
    (bytes text : List ℕ) : Type 0 where
  pub cert : Cert
  pub reads : Parses cert_format bytes cert
  pub count : length cert.entries ≡ length sheet.tasks
  pub bounded : AreBounded (meaning_of sheet.policy) per_task_meaning (sbf_of sheet.supply) sheet
      (bounds_of cert)
  pub in_time : AreInTime (meaning_of sheet.policy) per_task_meaning
      (sbf_of sheet.supply) sheet deadlines
  pub printed : text ≡ print sheet cert

-- the run complies with the sheet
abbrev pub RunComplies : SheetParts → Run → Type 0
RunComplies sheet run =
    IsCompliant (meaning_of sheet.policy) per_task_meaning (sbf_of sheet.supply) sheet run

-- the simulated run of a sheet complies with it, and in mode dense as many jobs arrive at each of its ticks
-- as the curves still admit; and the text is this run's
pub record SimulationHolds (sheet : SheetParts) (mode : Mode) (ticks : ℕ) (text : List ℕ)
    : Type 0 where
  pub complies : RunComplies sheet (simulated_run (world_for sheet mode) ticks)
  pub full : mode ≡ Dense → IsDense sheet ticks (simulated_run (world_for sheet mode) ticks)
  pub printed : text ≡ run_text_of (simulated_run (world_for sheet mode) ticks)

-- the bytes are a run, and it complies with the sheet; and the text tells what is seen in it
pub record RunHolds (sheet : SheetParts) (bytes text : List ℕ) : Type 0 where
  pub run : Run
  pub reads : Parses run_format bytes run
  pub complies : RunComplies sheet run
  pub printed : audit_print sheet (audit_for sheet run) ≡ printed.Done text

-- the exercise holds; and the text tells its numbers
pub record ExerciseIsPrinted (seed tasks : ℕ) (text : List ℕ) : Type 0 where
  pub exercise_holds : ExerciseHolds seed tasks
  pub printed : text ≡ exercise_line seed tasks (exercise_of seed tasks)
