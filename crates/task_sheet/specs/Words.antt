use Rattle.std.specs.Prelude.{ℕ, List, codes}
use Rattle.task_sheet.specs.declared.tasks.PolicyKind.{PolicyKind}
use Rattle.task_sheet.specs.declared.tasks.PolicyKind.TheVariants.{Fp, Edf, Fifo, Gel, Elf}

-- the word that names a policy in texts
abbrev pub policy_word : PolicyKind → List ℕ
policy_word Fp = codes "fp"
policy_word Edf = codes "edf"
policy_word Fifo = codes "fifo"
policy_word Gel = codes "gel"
policy_word Elf = codes "elf"
