use Rattle.std.proofs.Common.{refl, arith}
use Rattle.solver.proofs.LoadFacts.{slope_under}
use Rattle.solver.proofs.load.slope.Goals as goal

pub returns-clause-under : goal.returns-clause-under
returns-clause-under c =
    slope_under _ c.requires.valid c.args.x _ _ c.rate-rate.ensures.exact c.lag.ensures.behind refl
    (omega (arith, c.asked.ensures.exact))
