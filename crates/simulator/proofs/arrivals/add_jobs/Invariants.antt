use Rattle.std.proofs.Common.{◌≡◌}
use Rattle.simulated_run.specs.SimulatedRun.{add_jobs}
use Rattle.simulator.specs.SimulationState.{IsReady, world_by, moment_of}
use Rattle.simulator.proofs.arrivals.add_jobs.Given as goal

abbrev pub invariant-loop-i : goal.invariant-loop-i
invariant-loop-i g l = record {
  moment : moment_of l.simulation ≡ add_jobs (world_by g.P.Policy.meaning g.M.Preemption.cuts l.sheet l.mode) l.o l.t l.i (moment_of l.initial.simulation);
  kept : IsReady g.P.Policy.meaning g.M.Preemption.cuts l.sheet l.t l.simulation;
}
