use Rattle.schedule_laws.specs.Tests.{is_idle_broken}
use Rattle.audit.specs.declared.verdict.Rule.TheVariants as rule
use Rattle.audit.specs.Faults.{idle_in}
use Rattle.audit.proofs.SearchFacts.{placed}
use Rattle.audit.proofs.ticks.first_idling.Goals as goal

pub returns : goal.returns
unfolding idle_in
returns c = placed rule.Idle (is_idle_broken c.args.run.now) c.args.run.now _ _ c.in_ok-place.ensures c.fault_of.ensures
