use Rattle.std.proofs.Common.{sym}
use Rattle.simulator.specs.SimulationState.{run_of}
use Rattle.simulator.proofs.TickFacts.{chosen_inside, chosen_first, chosen_idle}
use Rattle.simulator.proofs.ticks.choose.Goals as goal

pub returns-in-Some : goal.returns-in-Some
returns-in-Some c = λ w t kept. (
    let m = c.args.simulation.now in
    sym (chosen_inside w t (run_of m) m.left.items m.queue m.coming m.inside kept.jobs c.in-Some.k c.in-Some.is)
    )

pub returns-in-Some-first_entry : goal.returns-in-Some-first_entry
returns-in-Some-first_entry c = λ w t kept. (
    let m = c.args.simulation.now in
    sym (chosen_first w t (run_of m) m.left.items m.queue m.coming m.inside kept.jobs c.in-Some-first_entry.k c.in_default.is c.in-Some-first_entry.ensures)
    )

pub returns-in-None : goal.returns-in-None
returns-in-None c = λ w t kept. (
    let m = c.args.simulation.now in
    sym (chosen_idle w t (run_of m) m.left.items m.queue m.coming m.inside kept.jobs c.in_default.is c.in-None.ensures)
    )
