use Rattle.std.proofs.Common.{ℤ, SFits, w64, subst, rules}
use Rattle.std.proofs.lemmas.Int.{to_z-of_z}
use Rattle.policy.specs.declared.keys.Cap.TheVariants.{At, All}
use Rattle.solver.specs.Loads.{IsUnderCapped}
use Rattle.solver.proofs.LoadFacts.{capped_flat, by_cap}
use Rattle.solver.proofs.caps.cap_line.Goals as goal

pub returns-in-Nothing-clause-under : goal.returns-in-Nothing-clause-under
returns-in-Nothing-clause-under c = capped_flat c.args.task.now c.requires.valid c.args.cap c.args.x

pub returns-in-At-clause-under : goal.returns-in-At-clause-under
returns-in-At-clause-under c =
    let fits : SFits w64 c.in-At.c = search rules in
    let same = to_z-of_z w64 c.in-At.c fits in
    let under = subst (λ (z : ℤ). IsUnderCapped c.args.task.now (At z) c.args.x c.capped.result) same c.capped.ensures.under in
    by_cap c.args.task.now c.args.cap (At c.in-At.c) c.args.x c.capped.result c.in-At.is under

pub returns-in-All-clause-under : goal.returns-in-All-clause-under
returns-in-All-clause-under c = by_cap c.args.task.now c.args.cap All c.args.x c.slope.result c.in-All.is c.slope.ensures.under
