use Rattle.schedule_laws.proofs.CrowdFacts.{ends_suffice, within_free}
use Rattle.schedule_laws.proofs.laws.crowds_decide.Goals as goal

pub returns : goal.returns
returns c = λ sheet ok run of. (within_free sheet ok run of, ends_suffice sheet ok run)
