use Rattle.std.proofs.Common.{arith, rules}
use Rattle.simulator.proofs.ShutFacts.{gaps_pushed}
use Rattle.simulator.proofs.openings.all_gaps.Goals as goal

pub loop-o-preserved : goal.loop-o-preserved
loop-o-preserved c = record {
  len = search rules;
  gaps =
      gaps_pushed c.loop-o._o c.loop-o.list.items c.push.new.self.items c.in_ok-no_gaps.field-0 c.in_ok-push.ensures.items
      c.loop-o.invariant.len c.loop-o.invariant.gaps
      c.in_ok-no_gaps.ensures;
}

pub returns-clause-gaps : goal.returns-clause-gaps
returns-clause-gaps c = λ o d curve b ok. c.loop-o.invariant.gaps o d curve (omega (arith, b)) ok
