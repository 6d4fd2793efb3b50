use Rattle.solver.proofs.LawFacts.{laws_hold}
use Rattle.solver.proofs.laws.laws.Goals as goal

pub returns : goal.returns
returns g c =
    laws_hold _ _ _ _ c.need_fits.ensures c.demand_grows.ensures c.need_falls.ensures c.across_gap.ensures
    c.len-valid.ensures.valid c.requires.served (g.met.S.Supply.starts c.args.supply.now c.known.ensures)
    (λ d. g.met.S.Supply.grows c.args.supply.now d c.known.ensures)
