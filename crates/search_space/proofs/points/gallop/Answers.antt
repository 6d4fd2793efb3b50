use Rattle.std.proofs.Common.{refl, arith}
use Rattle.search_space.proofs.PointFacts.{same_true}
use Rattle.search_space.proofs.points.gallop.Goals as goal

pub loop-i-init : goal.loop-i-init
loop-i-init g c = record {
  after = omega arith;
  below = c.requires.after;
  jumps = omega arith;
  short = omega arith;
  same =
      same_true g.P.Policy.meaning c.args.sheet.now c.args.i c.args.a c.args.a (λ o l. refl);
}
