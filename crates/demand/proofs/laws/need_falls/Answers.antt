use Rattle.demand.proofs.Gaps.{need_less}
use Rattle.demand.proofs.laws.need_falls.Goals as goal

pub returns : goal.returns
returns g c = λ sheet ok i from a x in_range h same. need_less _ _ sheet ok (g.met.P.Policy.lawful sheet ok) i in_range from a x h same
