use Rattle.std.proofs.Common.{◌≡◌, ℕ, ap, arith}
use Rattle.std.proofs.lemmas.Int.{ints}
use Rattle.policy.specs.declared.keys.Cap.TheVariants.{At}
use Rattle.policy_more.proofs.gel.GelPolicy.cap.Goals as goal

pub returns : goal.returns
returns c =
    let one = c.point_of.ensures in
    let other = c.point_of-2.ensures in
    rw (← one.point, ← other.point, ← c.task.ensures.task)
    (ap At (omega (arith, ints, c.requires.offset, c.task.ensures.jitter, one.low, one.high, other.low, other.high)))
