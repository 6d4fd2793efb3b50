use Rattle.std.proofs.Common.{length, refl, arith}
use Rattle.solver.proofs.CeilingFacts.{spare_more, spare_everywhere}
use Rattle.solver.proofs.ceilings.spare.Goals as goal

pub loop-k-preserved : goal.loop-k-preserved
loop-k-preserved c =
    record {
      is = spare_more (length c.args.times.now) c.args.horizon c.loop-k.k c.loop-k.spare _ _ c.args.times.now (omega (arith, c.requires.0))
          c.loop-k.invariant.is refl (omega (arith, c.max-spare.ensures, c.saturating_sub.ensures));
      bound = omega (arith, c.loop-k.invariant.bound, c.max-spare.ensures, c.saturating_sub.ensures);
    }

pub returns-clause-over : goal.returns-clause-over
returns-clause-over c = λ r. spare_everywhere c.args.horizon _ _ c.args.times.now c.requires (omega arith) c.loop-k.invariant.is r
