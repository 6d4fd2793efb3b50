use Rattle.std.proofs.Common.{◌≡◌}
use Rattle.policy_more.proofs.PointFacts.{kept_order}
use Rattle.policy_more.proofs.gel.GelPolicy.may_block.Goals as goal

pub returns : goal.returns
returns c =
    let other = c.point_of.ensures in
    let own = c.point_of-2.ensures in
    rw (← own.point, ← other.point, ← c.task.ensures.task)
    (kept_order c.point_of-2.result c.point_of.result c.args.a c.task.result.now.jitter own.low own.high other.low other.high
    c.requires.offset c.task.ensures.jitter)
