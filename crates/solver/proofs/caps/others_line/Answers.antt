use Rattle.std.proofs.Common.{arith}
use Rattle.demand.specs.Demand.{other_of}
use Rattle.solver.proofs.LoadFacts.{under_none, under_more, under_all, small_none, small_both, small_more}
use Rattle.solver.proofs.caps.others_line.Goals as goal

pub loop-o-init : goal.loop-o-init
loop-o-init g c = record { under = under_none (other_of g.P.Policy.meaning c.args.sheet.now c.args.i c.args.a) c.args.x; small = small_none 0 }

pub joined-line-requires-clause-line : goal.joined-line-requires-clause-line
joined-line-requires-clause-line g c = small_more _ _ _ (omega (arith, c.len-o-end.ensures.valid.few)) c.loop-o.invariant.small

pub loop-o-preserved : goal.loop-o-preserved
loop-o-preserved g c =
    let joined = c.joined-line.ensures in
    record {
      under = under_more _ _ _ _ _ _ joined.fixed joined.rate joined.loss (omega (arith, joined.cut)) (omega (arith, joined.cut))
          c.loop-o.invariant.under c.other_line.ensures.under;
      small = small_both _ _ _ _ c.loop-o.invariant.small c.other_line.ensures.small joined.fixed joined.rate joined.loss (omega (arith, joined.cut));
    }

pub returns-clause-under : goal.returns-clause-under
returns-clause-under g c = under_all _ _ _ _ _ (omega (arith, c.len-o-end.ensures.len)) c.loop-o.invariant.under

pub returns-clause-small : goal.returns-clause-small
returns-clause-small g c = small_more _ _ _ (omega (arith, c.len-o-end.ensures.valid.few)) c.loop-o.invariant.small
