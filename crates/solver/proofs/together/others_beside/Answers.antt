use Rattle.std.proofs.Common.{arith, length}
use Rattle.demand.specs.Demand.{other_of}
use Rattle.solver.proofs.LoadFacts.{small_both, small_more}
use Rattle.solver.proofs.GroupFacts.{beside_more, beside_all}
use Rattle.solver.proofs.together.others_beside.Goals as goal

pub loop-o-init : goal.loop-o-init
loop-o-init g c = record {
  beside = λ l from to short. omega arith;
  small = record { fixed = omega arith; rate = omega arith; loss = omega arith; cut = c.requires.cut };
  cut = omega arith;
}

pub joined-line-requires-clause-line : goal.joined-line-requires-clause-line
joined-line-requires-clause-line g c = small_more _ _ _ (omega (arith, c.len-o-end.ensures.valid.few)) c.loop-o.invariant.small

pub loop-o-preserved : goal.loop-o-preserved
loop-o-preserved g c =
    let joined = c.joined-line.ensures in
    record {
      beside = beside_more (other_of g.P.Policy.meaning c.args.sheet.now c.args.i c.args.a) c.args.sheet.now c.args.marks.now c.args.cut c.loop-o.o c.args.x
          c.loop-o.line c.other_share.result c.joined-line.result joined.fixed joined.rate joined.loss (omega (arith, joined.cut)) (omega (arith, joined.cut))
          c.loop-o.invariant.beside c.other_share.ensures.beside;
      small = small_both _ _ _ _ c.loop-o.invariant.small c.other_share.ensures.small joined.fixed joined.rate joined.loss (omega (arith, joined.cut));
      cut = omega (arith, joined.cut, c.loop-o.invariant.cut);
    }

pub returns-clause-beside : goal.returns-clause-beside
returns-clause-beside g c =
    beside_all (other_of g.P.Policy.meaning c.args.sheet.now c.args.i c.args.a) c.args.sheet.now c.args.marks.now c.args.cut c.loop-o.o (length c.args.sheet.now.tasks)
    c.args.x c.loop-o.line (omega (arith, c.len-o-end.ensures.len)) c.loop-o.invariant.beside

pub returns-clause-small : goal.returns-clause-small
returns-clause-small g c = small_more _ _ _ (omega (arith, c.len-o-end.ensures.valid.few)) c.loop-o.invariant.small
