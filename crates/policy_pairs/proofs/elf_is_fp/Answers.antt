use Rattle.policy_pairs.proofs.Twins.{elf_fp}
use Rattle.policy_pairs.proofs.elf_is_fp.Goals as goal

pub returns : goal.returns
returns g c = λ supply. elf_fp _ _
