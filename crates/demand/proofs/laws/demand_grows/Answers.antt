use Rattle.demand.proofs.DemandFacts.{rising}
use Rattle.demand.proofs.laws.demand_grows.Goals as goal

pub returns : goal.returns
returns g c = λ sheet ok i in_range. rising _ _ sheet ok i
