use Rattle.std.proofs.Common.{arith}
use Rattle.schedule_laws.specs.Tests.{is_idle_broken}
use Rattle.audit.proofs.PlaceFacts.{place_more, place_here}
use Rattle.audit.proofs.idling.idle_place.Goals as goal

pub loop-t-preserved : goal.loop-t-preserved
loop-t-preserved c = record {
  waiting = c.serve.ensures;
  before = place_more (is_idle_broken c.args.run.now) c.args.run.now c.loop-t.t c.loop-t.invariant.before (rw c.in_default.is at c.idle_job.ensures);
}

pub returns-in-Some : goal.returns-in-Some
returns-in-Some c = place_here (is_idle_broken c.args.run.now) c.args.run.now c.loop-t.t c.in-Some.job
    (omega arith) c.loop-t.invariant.before (rw c.in-Some.is at c.idle_job.ensures)

pub returns : goal.returns
returns c = λ t b. c.loop-t.invariant.before t (omega arith)
