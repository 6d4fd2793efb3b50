use Rattle.std.proofs.Common.{sym, subst}
use Rattle.simulator.specs.SimulationState.{MayBe}
use Rattle.simulator.proofs.TickFacts.{may_be}
use Rattle.simulator.proofs.ticks.pick.Goals as goal

pub returns-else-off-clause-may : goal.returns-else-off-clause-may
returns-else-off-clause-may c = λ w t cuts kept. subst (MayBe c.args.simulation.now t) (sym (c.choose.ensures w t kept))
    (may_be w cuts t c.args.simulation.now kept.jobs)
