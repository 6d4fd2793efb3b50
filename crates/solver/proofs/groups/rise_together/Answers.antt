use Rattle.std.proofs.Common.{◌+◌, ◌*◌, refl, ap, arith, subst, ℕ}
use Rattle.std.proofs.Math.Nat.{mul-le-mul_right}
use Rattle.task_sheet.specs.declared.tasks.Task.{Task}
use Rattle.solver.specs.Groups.{RisesBy}
use Rattle.solver.proofs.GroupFacts.{rises_more}
use Rattle.solver.proofs.groups.rise_together.Goals as goal

pub loop-o-init : goal.loop-o-init
loop-o-init c = record { rises = λ l. omega arith; fixed = omega arith; rate = omega arith }

pub loop-o-preserved : goal.loop-o-preserved
loop-o-preserved c =
    let own = c.rate_in-own.result in
    let jitter = c.task.result.now.jitter in
    record {
      rises = rises_more c.args.sheet.now c.args.group.now c.loop-o.o c.loop-o.fixed c.loop-o.rate own (c.loop-o.fixed + own * jitter) (c.loop-o.rate + own)
          c.rate_in-own.ensures.rises (ap (λ (t : Task). c.loop-o.fixed + own * t.jitter) c.task.ensures.task) refl c.loop-o.invariant.rises;
      fixed = omega (arith, c.loop-o.invariant.fixed, c.task.ensures.jitter, mul-le-mul_right jitter c.rate_in-own.ensures.bound);
      rate = omega (arith, c.loop-o.invariant.rate, c.rate_in-own.ensures.bound);
    }

pub returns-clause-rises : goal.returns-clause-rises
returns-clause-rises c =
    subst (λ (w : ℕ). RisesBy c.args.sheet.now c.args.group.now w c.loop-o.fixed c.loop-o.rate) (omega (arith, c.len-o-end.ensures.len)) c.loop-o.invariant.rises
