use Rattle.std.proofs.Common.{arith}
use Rattle.meter.proofs.NextFacts.{next_some, next_none}
use Rattle.meter.proofs.meter.Meter.next_point.Goals as goal

pub returns-then-next-below : goal.returns-then-next-below
returns-then-next-below g c =
    let is = c.self.invariant in
    rw (← c.self.view_is) (next_some _ _ _ _ _ _ is.seated.counted c.across_gap.ensures is.valid is.in_range c.args.below
    c.least_below-next.result c.requires c.least_below-next.ensures (omega arith))

pub returns-else-next-below : goal.returns-else-next-below
returns-else-next-below g c =
    let is = c.self.invariant in
    rw (← c.self.view_is) (next_none _ _ _ _ _ _ is.seated.counted c.across_gap.ensures is.valid is.in_range c.args.below
    c.least_below-next.result c.requires c.least_below-next.ensures (omega arith))
