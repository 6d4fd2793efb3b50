use Rattle.schedule_laws.specs.Tests.{is_segment_broken}
use Rattle.audit.specs.declared.verdict.Rule.TheVariants as rule
use Rattle.audit.specs.Faults.{segment_in}
use Rattle.audit.proofs.SearchFacts.{placed}
use Rattle.audit.proofs.ticks.first_segment.Goals as goal

pub returns : goal.returns
unfolding segment_in
returns g c = placed rule.Segment (is_segment_broken g.M.Preemption.cuts c.args.sheet.now c.args.run.now) c.args.run.now _ _
    c.in_ok-place.ensures c.fault_of.ensures
