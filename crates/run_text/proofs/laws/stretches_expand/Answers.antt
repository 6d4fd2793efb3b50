use Rattle.run_text.proofs.StretchFacts.{ticks_of-stretches_of, apart-stretches_of, some-stretches_of}
use Rattle.run_text.proofs.laws.stretches_expand.Goals as goal

pub returns-clause-same : goal.returns-clause-same
returns-clause-same c = ticks_of-stretches_of

pub returns-clause-apart : goal.returns-clause-apart
returns-clause-apart c = apart-stretches_of

pub returns-clause-some : goal.returns-clause-some
returns-clause-some c = some-stretches_of
