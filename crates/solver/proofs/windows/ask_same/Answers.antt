use Rattle.std.proofs.Common.{arith}
use Rattle.std.proofs.lemmas.Bool.{eqb-true}
use Rattle.solver.proofs.WindowFacts.{same_need}
use Rattle.solver.proofs.windows.ask_same.Goals as goal

pub returns : goal.returns
returns g c = λ same.
    same_need _ _ _ _ _ (λ o b. c.loop-o.invariant o (omega arith))
    (omega (arith, c.window_need.ensures.exact, c.window_need-2.ensures.exact, eqb-true c.window_need.result c.window_need-2.result same))
