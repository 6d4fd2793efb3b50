use Rattle.std.proofs.Common.{length, refl}
use Rattle.simulator.specs.SimulationState.{run_of}
use Rattle.simulator.proofs.TickFacts.{idle_kept}
use Rattle.simulator.proofs.ticks.advance.Goals as goal

pub returns-in_default : goal.returns-in_default
returns-in_default g c =
    let m = c.args.simulation.now in
    record {
      rest = record { jobs = refl; ticks = refl; words = refl; segments = refl; arrivals = refl; releases = refl; counts = refl };
      kept =
          idle_kept g.P.Policy.meaning g.M.Preemption.cuts c.args.sheet.now (length m.ticks.items) (run_of m) m.left.items m.queue
          m.coming m.inside c.requires.kept.jobs c.args.tick c.in_default.not-Runs;
    }
