use Rattle.std.proofs.Common.{sym}
use Rattle.preemption.proofs.SegmentFacts.{each_within_lengths}
use Rattle.preemption.proofs.segments.each_within.Goals as goal

pub returns-then-segments-bounds : goal.returns-then-segments-bounds
returns-then-segments-bounds c = sym (each_within_lengths c.args.segments.now c.args.bounds.now c.if-segments-bounds.true)
