use Rattle.std.proofs.Common.{arith}
use Rattle.curve_infer.proofs.MostFacts.{most_high}
use Rattle.curve_infer.proofs.inferring.next_rise.Goals as goal

pub returns-then-n-times : goal.returns-then-n-times
returns-then-n-times c = record {
  within = omega arith;
  soon = λ d b enough. absurd (omega (arith, most_high c.args.times.now c.requires.trace d, enough, c.if-n-times.true));
  there = λ d b late. absurd (omega arith);
}
