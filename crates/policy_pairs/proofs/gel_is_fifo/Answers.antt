use Rattle.policy_pairs.proofs.Twins.{gel_fifo}
use Rattle.policy_pairs.proofs.gel_is_fifo.Goals as goal

pub returns : goal.returns
returns g c = λ supply. gel_fifo _ _
