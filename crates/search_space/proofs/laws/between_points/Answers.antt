use Rattle.search_space.proofs.PointFacts.{between}
use Rattle.search_space.proofs.laws.between_points.Goals as goal

pub returns : goal.returns
returns g c = λ sheet ok i a b in_range h none. between _ sheet i a b h none
