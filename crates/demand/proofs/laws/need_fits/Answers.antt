use Rattle.demand.proofs.DemandFacts.{fits}
use Rattle.demand.proofs.laws.need_fits.Goals as goal

pub returns : goal.returns
returns g c = λ sheet ok served i a l in_range below. fits _ _ sheet ok (g.met.P.Policy.lawful sheet ok)
    (λ o b. g.met.M.Preemption.lawful _ (ok.each o b) (served o b)) i a l in_range below
