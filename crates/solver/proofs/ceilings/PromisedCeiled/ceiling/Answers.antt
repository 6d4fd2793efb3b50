use Rattle.std.proofs.Common.{arith}
use Rattle.supply.specs.Supplies.{promised_by}
use Rattle.supply.specs.Lawful.{promise_starts, promise_grows}
use Rattle.solver.proofs.LawFacts.{supplied_within}
use Rattle.solver.proofs.ceilings.PromisedCeiled.ceiling.Goals as goal

pub returns-clause-over : goal.returns-clause-over
returns-clause-over c =
    let p = c.args.self.now in
    λ d. omega (arith, supplied_within (promised_by p) (promise_starts p c.known.ensures) (λ n. (promise_grows p n c.known.ensures).1) d)
