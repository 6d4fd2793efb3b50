use Rattle.solver.proofs.Rises.{need_rise}
use Rattle.solver.proofs.laws.need_rises.Goals as goal

pub returns : goal.returns
returns g c = λ sheet ok i from a x in_range h blocks. need_rise _ _ sheet ok (g.met.P.Policy.lawful sheet ok) i in_range from a x h blocks
