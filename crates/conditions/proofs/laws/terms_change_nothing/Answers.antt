use Rattle.conditions.proofs.FilledFacts.{change_nothing}
use Rattle.conditions.proofs.laws.terms_change_nothing.Goals as goal

pub returns : goal.returns
returns g c = λ supply. change_nothing _ _ _
