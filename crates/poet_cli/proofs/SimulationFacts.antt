-- What a simulation that was not refused says of the simulated run.
use Rattle.std.proofs.Common.{◌≡◌, ℕ, Option, Some, None, List, Ok, refl, ap, subst, ◌∙◌}
use Rattle.task_sheet.specs.SheetParts.{SheetParts}
use Rattle.run_model.specs.declared.run.Run.{Run}
use Rattle.run_text.specs.Text.{text_of}
use Rattle.simulated_run.specs.declared.mode.Mode.{Mode}
use Rattle.simulated_run.specs.declared.mode.Mode.TheVariants.{Dense}
use Rattle.simulated_run.specs.SimulatedRun.{World, simulated_run}
use Rattle.simulated_run.specs.Laws.{IsDense}
use Rattle.simulator.specs.declared.refusal.SimRefusal.{SimRefusal}
use Rattle.simulator.specs.Simulations.{refused_by, run_or, simulation_of}
use Rattle.poet_text.specs.declared.printed.Printed.TheVariants.{Done}
use Rattle.poet_cli.specs.RunAnswers.{world_for}
use Rattle.poet_cli.specs.Headline.{RunComplies}
use Rattle.poet_cli.specs.Works.{SimulateDoes}

run_given : (whole run : Run) (limit : Option SimRefusal) → run_or whole limit ≡ Ok run → run ≡ whole
run_given whole run None e = cc
run_given whole run (Some limit) e = absurd (cc)

-- a simulation that was not refused, and the text of its run
pub simulation_judged : (sheet : SheetParts) (mode : Mode) (ticks : ℕ) (run : Run) (text : List ℕ) → text ≡ text_of run →
    simulation_of (world_for sheet mode) ticks ≡ Ok run → RunComplies sheet run → (mode ≡ Dense → IsDense sheet ticks run) →
    SimulateDoes mode ticks sheet (Ok (Done text))
simulation_judged sheet mode ticks run text same exact complies full =
    let w : World = world_for sheet mode in
    let is : run ≡ simulated_run w ticks = run_given (simulated_run w ticks) run (refused_by (simulated_run w ticks).jobs) exact in
    record {
      gives = rw (exact, same) refl;
      sound = record {
        complies = subst (RunComplies sheet) is complies;
        full = λ dense. subst (IsDense sheet ticks) is (full dense);
        printed = same ∙ ap text_of is;
      };
      refused = tt;
    }
