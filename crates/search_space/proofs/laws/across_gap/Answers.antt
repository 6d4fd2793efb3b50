use Rattle.search_space.proofs.PointFacts.{across}
use Rattle.search_space.proofs.laws.across_gap.Goals as goal

pub returns : goal.returns
returns g c = λ sheet ok i from at to in_range h l same. across _ sheet ok (g.met.P.Policy.lawful sheet ok) i in_range from at to h l same
