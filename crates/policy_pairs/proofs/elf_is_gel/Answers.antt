use Rattle.policy_pairs.proofs.Twins.{elf_gel}
use Rattle.policy_pairs.proofs.elf_is_gel.Goals as goal

pub returns : goal.returns
returns g c = λ supply. elf_gel _ _
