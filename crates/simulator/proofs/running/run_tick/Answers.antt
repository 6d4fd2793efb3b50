use Rattle.std.proofs.Common.{suc, sym, subst}
use Rattle.simulated_run.specs.SimulatedRun.{World, Moment}
use Rattle.simulated_run.proofs.GrowthFacts.{BeginsWith, tick_extends}
use Rattle.simulator.specs.SimulationState.{world_by, moment_of, run_of}
use Rattle.simulator.proofs.ShutFacts.{openings_on}
use Rattle.simulator.proofs.running.run_tick.Goals as goal

pub returns-clause-openings : goal.returns-clause-openings
returns-clause-openings g c =
    let w : World = world_by g.P.Policy.meaning g.M.Preemption.cuts c.args.sheet.now c.args.mode in
    let m = c.arrive.new.simulation in
    let later = c.add_tick.new.simulation in
    let begins : BeginsWith (run_of later).jobs (run_of m).jobs =
    subst (λ (v : Moment). BeginsWith v.run.jobs (run_of m).jobs) (sym c.in_ok-add_tick.ensures.moment) (tick_extends w c.args.t (moment_of m)) in
    openings_on c.args.sheet.now (run_of m) (run_of later) (suc c.args.t) c.arrive.new.openings begins c.in_ok-arrive.ensures.openings
