use Rattle.std.proofs.Common.{SFits, w64, ap, arith, rules}
use Rattle.std.proofs.lemmas.Int.{to_z-of_z}
use Rattle.policy.specs.declared.keys.Cap.TheVariants.{At}
use Rattle.policy.specs.Keys.{not_below_zero}
use Rattle.solver.proofs.LoadFacts.{capped_flat, capped_under}
use Rattle.solver.proofs.caps.capped.Goals as goal

pub returns-then-end-released-clause-under : goal.returns-then-end-released-clause-under
returns-then-end-released-clause-under c = capped_flat c.args.task.now c.requires.valid (At c.args.c) c.args.x

pub returns-clause-under : goal.returns-clause-under
returns-clause-under c =
    let fits : SFits w64 c.args.c = search rules in
    let same = ap not_below_zero (to_z-of_z w64 c.args.c fits) in
    capped_under c.args.task.now c.args.c c.args.x c.slope-line.result _ c.slope-line.ensures.under
    (omega (arith, c.min.ensures)) (omega (arith, c.min.ensures, c.reach-end.ensures, same))
