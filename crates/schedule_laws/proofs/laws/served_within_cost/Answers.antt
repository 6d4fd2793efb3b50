use Rattle.schedule_laws.proofs.PrefixFacts.{within_cost}
use Rattle.schedule_laws.proofs.laws.served_within_cost.Goals as goal

pub returns : goal.returns
returns g c = λ sheet run valid. within_cost _ sheet run valid
