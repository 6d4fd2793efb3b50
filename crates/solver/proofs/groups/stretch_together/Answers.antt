use Rattle.std.proofs.Common.{◌+◌, refl, arith, subst, ℕ}
use Rattle.solver.specs.Groups.{AskSo}
use Rattle.solver.proofs.GroupFacts.{asks_more}
use Rattle.solver.proofs.groups.stretch_together.Goals as goal

pub loop-o-init : goal.loop-o-init
loop-o-init c = record { asked = λ l from to. omega arith; bound = omega arith; later = c.requires.before; within = omega arith }

pub loop-o-preserved : goal.loop-o-preserved
loop-o-preserved c =
    let own = c.stretch_of-own.result in
    record {
      asked = asks_more c.args.sheet.now c.args.group.now c.loop-o.o c.args.d c.loop-o.until c.loop-o.asked c.min-until.result own.asked (c.loop-o.asked + own.asked)
          (omega (arith, c.min-until.ensures)) refl c.loop-o.invariant.asked
          (λ l from to. c.stretch_of-own.ensures.asked l from (omega (arith, to, c.min-until.ensures)));
      bound = omega (arith, c.loop-o.invariant.bound, c.stretch_of-own.ensures.bound);
      later = omega (arith, c.loop-o.invariant.later, c.stretch_of-own.ensures.later, c.min-until.ensures);
      within = omega (arith, c.loop-o.invariant.within, c.min-until.ensures);
    }

pub returns-clause-asked : goal.returns-clause-asked
returns-clause-asked c =
    subst (λ (w : ℕ). AskSo c.args.sheet.now c.args.group.now w c.args.d c.loop-o.until c.loop-o.asked) (omega (arith, c.len-o-end.ensures.len))
    c.loop-o.invariant.asked
