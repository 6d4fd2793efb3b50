use Rattle.std.proofs.Common.{length, sym, ◌∙◌, ap, arith}
use Rattle.simulated_run.specs.SimulatedRun.{World, arrive_below}
use Rattle.simulator.specs.SimulationState.{world_by, moment_of}
use Rattle.simulator.proofs.ShutFacts.{all_shut}
use Rattle.simulator.proofs.arrivals.arrive.Goals as goal

pub returns-then-t-openings-clause-moment : goal.returns-then-t-openings-clause-moment
returns-then-t-openings-clause-moment g c =
    let w : World = world_by g.P.Policy.meaning g.M.Preemption.cuts c.args.sheet.now c.args.mode in
    sym (all_shut w c.args.t (moment_of c.args.simulation.now) c.args.openings.now c.requires.openings (omega arith))
    ∙ ap (arrive_below w c.args.t (length w.sheet.tasks)) c.requires.stage
