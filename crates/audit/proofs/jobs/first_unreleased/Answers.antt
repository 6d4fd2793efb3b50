use Rattle.std.proofs.Common.{sym}
use Rattle.audit.proofs.FaultFacts.{unreleased_some, unreleased_none, all_released}
use Rattle.audit.proofs.VerdictFacts.{releases_from}
use Rattle.audit.proofs.jobs.first_unreleased.Goals as goal

pub returns-in_default-clause-fault : goal.returns-in_default-clause-fault
returns-in_default-clause-fault c = sym (unreleased_none c.args.sheet.now c.args.run.now (rw c.in_default.is at c.in_ok-k.ensures))

pub returns-in_default-clause-released : goal.returns-in_default-clause-released
returns-in_default-clause-released c = λ e. releases_from c.args.sheet.now c.args.run.now
    (all_released c.args.sheet.now c.args.run.now (rw c.in_default.is at c.in_ok-k.ensures))

pub returns-clause-fault : goal.returns-clause-fault
returns-clause-fault c = sym (unreleased_some c.args.sheet.now c.args.run.now c.in-Some.k (rw c.in-Some.is at c.in_ok-k.ensures))
