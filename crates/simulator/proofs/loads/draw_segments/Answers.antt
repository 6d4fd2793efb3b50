use Rattle.std.proofs.Common.{length, arith}
use Rattle.simulator.proofs.LoadFacts.{drawn_more, after_more}
use Rattle.simulator.proofs.loads.draw_segments.Goals as goal

pub loop-segment-preserved : goal.loop-segment-preserved
loop-segment-preserved c = record {
  segs =
      drawn_more c.args.segments.now c.loop-segment.segs.items _ c.push.new.self.items c.loop-segment.segment-index 0
      c.draw_cost.result c.loop-segment.words c.draw_cost.new.words (omega arith) c.draw_cost.ensures.cost
      c.draw_cost.ensures.state c.in_ok-push.ensures.items c.loop-segment.invariant.segs;
  state =
      after_more (length c.args.segments.now) c.loop-segment.segment-index c.loop-segment.words c.draw_cost.new.words _
      (omega arith) c.draw_cost.ensures.state c.loop-segment.invariant.state;
}
