use Rattle.std.proofs.Common.{arith}
use Rattle.search_space.proofs.PointFacts.{first_after, none_after}
use Rattle.search_space.proofs.points.next_point.Goals as goal

pub returns-then-next-below : goal.returns-then-next-below
returns-then-next-below g c = first_after _ _ c.across_gap.ensures c.len-valid.ensures.valid c.args.i c.requires.task c.args.a
    c.args.below c.bisect-next.result c.bisect-next.ensures c.if-next-below.true

pub returns-else-next-below : goal.returns-else-next-below
returns-else-next-below g c = none_after _ _ c.across_gap.ensures c.len-valid.ensures.valid c.args.i c.requires.task c.args.a
    c.args.below c.bisect-next.result c.bisect-next.ensures (omega arith)
