use Rattle.schedule_laws.specs.Tests.{is_priority_broken}
use Rattle.audit.specs.declared.verdict.Rule.TheVariants as rule
use Rattle.audit.specs.Faults.{priority_in}
use Rattle.audit.proofs.SearchFacts.{placed}
use Rattle.audit.proofs.ticks.first_overtaken.Goals as goal

pub returns : goal.returns
unfolding priority_in
returns g c = placed rule.Priority (is_priority_broken g.P.Policy.meaning g.M.Preemption.cuts c.args.sheet.now c.args.run.now)
    c.args.run.now _ _ c.in_ok-place.ensures c.fault_of.ensures
