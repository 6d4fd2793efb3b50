use Rattle.std.proofs.Common.{◌≡◌, suc, length}
use Rattle.simulator.specs.SimulationState.{IsKeptUpTo, moment_of}
use Rattle.simulator.proofs.releases.let_in.Given as goal

abbrev pub invariant-loop-due : goal.invariant-loop-due
invariant-loop-due g l = record {
  moment : moment_of l.simulation ≡ moment_of l.initial.simulation;
  kept : IsKeptUpTo g.P.Policy.meaning g.M.Preemption.cuts l.sheet l.t (suc l.t) l.t l.simulation;
}

abbrev pub decreases-loop-due : goal.decreases-loop-due
decreases-loop-due g l = length l.simulation.coming.keys
