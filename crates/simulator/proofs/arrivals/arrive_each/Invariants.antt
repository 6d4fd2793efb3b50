use Rattle.std.proofs.Common.{◌≡◌, ◌*◌, length, min}
use Rattle.simulated_run.specs.SimulatedRun.{arrive_below, moment_after}
use Rattle.simulator.specs.AllOpenings.{AreArriving}
use Rattle.simulator.specs.SimulationState.{IsReady, world_by, moment_of, run_of}
use Rattle.simulator.proofs.arrivals.arrive_each.Given as goal

abbrev pub invariant-loop-b : goal.invariant-loop-b
invariant-loop-b g l = record {
  moment : moment_of l.simulation ≡ arrive_below (world_by g.P.Policy.meaning g.M.Preemption.cuts l.sheet l.mode) l.t
      (min (16 * l.b) (length l.sheet.tasks)) (moment_after (world_by g.P.Policy.meaning g.M.Preemption.cuts l.sheet l.mode) l.t);
  kept : IsReady g.P.Policy.meaning g.M.Preemption.cuts l.sheet l.t l.simulation;
  openings : AreArriving l.sheet (run_of l.simulation) l.t (min (16 * l.b) (length l.sheet.tasks)) l.openings;
}
