use Rattle.std.proofs.Common.{arith}
use Rattle.solver.proofs.GroupFacts.{crossed_lower}
use Rattle.solver.proofs.together.crossing_lowered.Goals as goal

pub returns-clause-below : goal.returns-clause-below
returns-clause-below c sbf over l to risen =
    c.crossing.ensures.below sbf over l to (λ short. crossed_lower c.args.line c.args.lag c.args.wanted l (sbf l) (omega arith) (risen short))
