-- The answers of the commands over runs.
use Rattle.std.specs.Prelude.{ℕ, List, Result, Ok, Err}
use Rattle.task_sheet.specs.SheetParts.{SheetParts}
use Rattle.policy_more.specs.Meanings.{meaning_of}
use Rattle.preemption.specs.Kinds.{per_task_meaning}
use Rattle.supply.specs.Promises.{sbf_of}
use Rattle.run_model.specs.declared.run.Run.{Run}
use Rattle.run_text.specs.Text.{text_of}
use Rattle.run_text.specs.Parsing.{run_of_text}
use Rattle.simulated_run.specs.declared.mode.Mode.{Mode}
use Rattle.simulated_run.specs.SimulatedRun.{World, world_of}
use Rattle.simulator.specs.declared.refusal.SimRefusal.{SimRefusal}
use Rattle.simulator.specs.declared.refusal.SimRefusal.TheVariants as simulator
use Rattle.simulator.specs.Simulations.{simulation_of}
use Rattle.audit.specs.declared.verdict.AuditVerdict.{AuditVerdict}
use Rattle.audit.specs.Verdicts.{verdict_of}
use Rattle.poet_text.specs.declared.refusal.Source.TheVariants as source
use Rattle.poet_text.specs.declared.refusal.Refusal.TheVariants.{Jobs, Segments, Memory}
use Rattle.poet_text.specs.declared.printed.Printed.TheVariants as printed
use Rattle.poet_text.specs.Endings.{Ending, next}
use Rattle.poet_text.specs.RunPrinting.{audit_print}
use Rattle.poet_cli.specs.Answers.{text_read}

-- what a sheet is simulated for: its own policy, preemption and supply
abbrev pub world_for : SheetParts → Mode → World
world_for sheet mode =
    world_of (meaning_of sheet.policy) per_task_meaning (sbf_of sheet.supply) sheet mode

abbrev pub simulated_by : Result Run SimRefusal → Ending
simulated_by (Ok run) = Ok (printed.Done (text_of run))
simulated_by (Err simulator.Jobs) = Err Jobs
simulated_by (Err simulator.Segments) = Err Segments
simulated_by (Err simulator.Memory) = Err Memory

-- the answer of `simulate` over a sheet
abbrev pub simulate_by : Mode → ℕ → SheetParts → Ending
simulate_by mode ticks sheet = simulated_by (simulation_of (world_for sheet mode) ticks)

-- the verdict on a run, by the sheet's own policy, preemption and supply
abbrev pub audit_for : SheetParts → Run → AuditVerdict
audit_for sheet run =
    verdict_of (meaning_of sheet.policy) per_task_meaning (sbf_of sheet.supply) sheet run

-- the answer of `audit` over a sheet and the bytes of a run
abbrev pub audit_by : SheetParts → List ℕ → Ending
audit_by sheet bytes =
    next (text_read source.Run (run_of_text bytes))
    (λ run. Ok (audit_print sheet (audit_for sheet run)))
