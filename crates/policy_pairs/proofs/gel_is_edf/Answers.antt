use Rattle.policy_pairs.proofs.Twins.{gel_edf}
use Rattle.policy_pairs.proofs.gel_is_edf.Goals as goal

pub returns : goal.returns
returns g c = λ supply. gel_edf _ _
