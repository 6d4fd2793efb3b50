use Rattle.std.proofs.Common.{◌≡◌, ℕ, pos, ◌+ℤ◌, int_lt, true, false, refl, arith}
use Rattle.std.proofs.lemmas.Int.{ints}
use Rattle.policy_more.proofs.gel.GelPolicy.may_delay.Goals as goal

pub returns-then-point_of-own : goal.returns-then-point_of-own
returns-then-point_of-own c =
    let one = c.point_of.ensures in
    let other = c.point_of-2.ensures in
    let later : int_lt c.point_of-2.result (c.point_of.result +ℤ pos c.task.result.now.jitter) ≡ true =
    grind (arith, ints, c.if-point_of-own.true, c.task.ensures.jitter, one.low, one.high, other.low, other.high) in
    rw (← one.point, ← other.point, ← c.task.ensures.task, ← c.task-2.ensures.task, later) refl

pub returns-else-point_of-own : goal.returns-else-point_of-own
returns-else-point_of-own c =
    let one = c.point_of.ensures in
    let other = c.point_of-2.ensures in
    let sooner : int_lt c.point_of-2.result (c.point_of.result +ℤ pos c.task.result.now.jitter) ≡ false =
    grind (arith, ints, c.if-point_of-own.false, c.task.ensures.jitter, one.low, one.high, other.low, other.high) in
    rw (← one.point, ← other.point, ← c.task.ensures.task, sooner) c.if-point_of-own.false
