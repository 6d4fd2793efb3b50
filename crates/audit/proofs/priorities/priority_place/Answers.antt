use Rattle.std.proofs.Common.{arith}
use Rattle.schedule_laws.specs.Tests.{is_priority_broken}
use Rattle.audit.proofs.PlaceFacts.{place_more, place_here}
use Rattle.audit.proofs.priorities.priority_place.Goals as goal

pub loop-t-preserved : goal.loop-t-preserved
loop-t-preserved g c = record {
  come = c.serve.ensures;
  before = place_more (is_priority_broken g.P.Policy.meaning g.M.Preemption.cuts c.args.sheet.now c.args.run.now) c.args.run.now
      c.loop-t.t c.loop-t.invariant.before (rw c.in_default.is at c.overtaken_job.ensures);
}

pub returns-in-Some : goal.returns-in-Some
returns-in-Some g c =
    place_here (is_priority_broken g.P.Policy.meaning g.M.Preemption.cuts c.args.sheet.now c.args.run.now) c.args.run.now
    c.loop-t.t c.in-Some.job (omega arith) c.loop-t.invariant.before (rw c.in-Some.is at c.overtaken_job.ensures)

pub returns : goal.returns
returns g c = λ t b. c.loop-t.invariant.before t (omega arith)
