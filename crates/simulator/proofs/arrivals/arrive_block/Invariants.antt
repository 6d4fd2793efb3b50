use Rattle.std.proofs.Common.{◌≡◌}
use Rattle.simulated_run.specs.SimulatedRun.{arrive_below, moment_after}
use Rattle.simulator.specs.SimulationState.{IsReady, world_by, moment_of, run_of}
use Rattle.simulator.proofs.ShutFacts.{IsArriving}
use Rattle.simulator.proofs.arrivals.arrive_block.Given as goal

abbrev pub invariant-loop-o : goal.invariant-loop-o
invariant-loop-o g l = record {
  moment : moment_of l.simulation ≡ arrive_below (world_by g.P.Policy.meaning g.M.Preemption.cuts l.sheet l.mode) l.t l.o
      (moment_after (world_by g.P.Policy.meaning g.M.Preemption.cuts l.sheet l.mode) l.t);
  kept : IsReady g.P.Policy.meaning g.M.Preemption.cuts l.sheet l.t l.simulation;
  arriving : IsArriving l.sheet (run_of l.simulation) l.t l.b l.o l.first l.openings.ticks.items l.openings.gaps.items l.openings.firsts.items;
}
