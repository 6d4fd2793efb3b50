use Rattle.std.proofs.Common.{◌∙◌}
use Rattle.poet_cli.proofs.SimulationFacts.{simulation_judged}
use Rattle.poet_cli.proofs.simulating.simulated.Goals as goal

pub returns-in-Ok-write_run : goal.returns-in-Ok-write_run
returns-in-Ok-write_run c =
    simulation_judged c.args.sheet.now c.args.mode c.args.ticks c.in-Ok.run' c.new.result
    (c.new.ensures ∙ c.in-Ok-write_run.ensures) c.in-Ok.ensures.exact c.in-Ok.ensures.complies c.in-Ok.ensures.full
