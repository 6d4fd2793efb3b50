use Rattle.std.proofs.Common.{◌+◌, List, length, get_or, sym, ◌∙◌, ap, subst, arith}
use Rattle.run_model.specs.declared.run.Tick.{Tick}
use Rattle.run_model.specs.declared.run.Tick.TheVariants.{Off}
use Rattle.schedule_laws.specs.Compliance.{can_cut}
use Rattle.schedule_laws.specs.Tests.{is_segment_broken}
use Rattle.audit.specs.TickRules.{OnlyMayFail, last_after}
use Rattle.audit.proofs.ServedFacts.{served_written}
use Rattle.audit.proofs.PlaceFacts.{place_more, place_here}
use Rattle.audit.proofs.SegmentFacts.{may_next, inside_none}
use Rattle.audit.proofs.segments.segment_place.Goals as goal

pub loop-t-init : goal.loop-t-init
loop-t-init g c = record {
  served = c.in_ok-served.ensures;
  last = inside_none g.M.Preemption.cuts c.args.sheet.now c.args.run.now g.met.M.Preemption.lawful c.len-valid.ensures.valid c.requires.served c.requires.fit;
  before = λ s b. absurd (omega arith);
}

pub loop-t-preserved : goal.loop-t-preserved
loop-t-preserved g c =
    let m = g.M.Preemption.cuts in
    let sheet = c.args.sheet.now in
    let run = c.args.run.now in
    let t = c.loop-t.t in
    let is = c.last_after-last.ensures ∙ ap (λ (v : List Tick). last_after (get_or v t Off) c.loop-t.last) c.as_slice.ensures in
    record {
      served = served_written run t _ c.loop-t.served.len c.serve.new.served c.loop-t.served.items c.loop-t.served.ok.0
          c.loop-t.invariant.served c.serve.ensures;
      last = subst (OnlyMayFail (λ k. can_cut m sheet run k (t + 1)) (length run.jobs)) (sym is)
          (may_next m sheet run t (omega arith) c.loop-t.last (c.requires.small.named t) c.loop-t.invariant.last (c.left_job.ensures.cut c.in_default.is));
      before = place_more (is_segment_broken m sheet run) run t c.loop-t.invariant.before (rw c.in_default.is at c.left_job.ensures.first);
    }

pub returns-in-Some : goal.returns-in-Some
returns-in-Some g c = place_here (is_segment_broken g.M.Preemption.cuts c.args.sheet.now c.args.run.now) c.args.run.now c.loop-t.t c.in-Some.job
    (omega arith) c.loop-t.invariant.before (rw c.in-Some.is at c.left_job.ensures.first)

pub returns : goal.returns
returns g c = λ t b. c.loop-t.invariant.before t (omega arith)
