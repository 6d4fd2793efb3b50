use Rattle.schedule_laws.proofs.PrefixFacts.{released_before}
use Rattle.schedule_laws.proofs.laws.served_since_release.Goals as goal

pub returns : goal.returns
returns g c = λ sheet run valid. released_before _ sheet run valid
