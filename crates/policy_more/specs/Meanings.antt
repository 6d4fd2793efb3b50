use Rattle.task_sheet.specs.declared.tasks.PolicyKind.{PolicyKind}
use Rattle.task_sheet.specs.declared.tasks.PolicyKind.TheVariants.{Fp, Edf, Fifo, Gel, Elf}
use Rattle.policy.specs.PolicyMeaning.{PolicyMeaning}
use Rattle.policy.specs.Policies.{fp_meaning, edf_meaning, fifo_meaning}
use Rattle.policy_more.specs.PointPolicies.{gel_meaning, elf_meaning}

-- what a sheet's policy means
abbrev pub meaning_of : PolicyKind → PolicyMeaning
meaning_of Fp = fp_meaning
meaning_of Edf = edf_meaning
meaning_of Fifo = fifo_meaning
meaning_of Gel = gel_meaning
meaning_of Elf = elf_meaning
