use Rattle.std.proofs.Common.{◌≡◌}
use Rattle.simulated_run.specs.SimulatedRun.{moment_after}
use Rattle.simulator.specs.AllOpenings.{AreOpenings}
use Rattle.simulator.specs.SimulationState.{IsKept, world_by, moment_of, run_of}
use Rattle.simulator.proofs.running.simulate.Given as goal

abbrev pub invariant-loop-t : goal.invariant-loop-t
invariant-loop-t g l = record {
  moment : moment_of l.simulation ≡ moment_after (world_by g.P.Policy.meaning g.M.Preemption.cuts l.sheet l.mode) l.t;
  kept : IsKept g.P.Policy.meaning g.M.Preemption.cuts l.sheet l.t l.simulation;
  openings : AreOpenings l.sheet (run_of l.simulation) l.t l.openings;
}
