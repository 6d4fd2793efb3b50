use Rattle.std.proofs.Common.{arith}
use Rattle.meter.proofs.MeterFacts.{whole_high, rest_within, need_exact}
use Rattle.meter.proofs.meter.Meter.need.Goals as goal

pub overflow_sub-result : goal.overflow_sub-result
overflow_sub-result g c =
    let is = c.self.invariant in
    rest_within _ _ _ _ _ _ _ _ _ _ is (g.met.P.Policy.lawful _ is.valid)

pub overflow_add-result : goal.overflow_add-result
overflow_add-result g c = omega (arith, c.self.invariant.blocker_is.high, whole_high _ _ _ _ _ _ _ _ _ _ c.self.invariant)

pub returns-clause-exact : goal.returns-clause-exact
returns-clause-exact g c =
    let is = c.self.invariant in
    rw (← c.self.view_is) (need_exact _ _ _ _ _ _ _ _ _ _ is (g.met.P.Policy.lawful _ is.valid))

pub returns-clause-bound : goal.returns-clause-bound
returns-clause-bound g c = omega (arith, c.self.invariant.blocker_is.high, whole_high _ _ _ _ _ _ _ _ _ _ c.self.invariant)
