use Rattle.std.proofs.Common.{refl, arith}
use Rattle.solver.proofs.CeilingFacts.{over_parts}
use Rattle.solver.proofs.LoadFacts.{crossed, crossed_never}
use Rattle.solver.proofs.load.crossing.Goals as goal

pub returns-then-line-climb-clause-below : goal.returns-then-line-climb-clause-below
returns-then-line-climb-clause-below c =
    λ sbf over. crossed_never c.args.line c.args.wanted c.args.horizon c.args.ceiling.now.spare c.climb-climb.result _ sbf
    (omega (arith, c.min-end.ensures)) (omega arith) (omega arith)
    (λ l. over_parts sbf c.args.ceiling.now c.climb-climb.result l c.requires.ceiling over c.climb-climb.ensures.enough)

pub returns-then-caught-end-clause-below : goal.returns-then-caught-end-clause-below
returns-then-caught-end-clause-below c =
    λ sbf over. crossed c.args.line c.args.wanted c.args.horizon c.args.ceiling.now.spare c.climb-climb.result _ _ sbf
    (omega (arith, c.min-end.ensures)) (omega arith) (omega arith) (omega arith) refl
    (λ l. over_parts sbf c.args.ceiling.now c.climb-climb.result l c.requires.ceiling over c.climb-climb.ensures.enough)

pub returns-else-caught-end-clause-below : goal.returns-else-caught-end-clause-below
returns-else-caught-end-clause-below c =
    λ sbf over. crossed c.args.line c.args.wanted c.args.horizon c.args.ceiling.now.spare c.climb-climb.result _ _ sbf
    (omega (arith, c.min-end.ensures)) (omega arith) (omega arith) (omega arith) refl
    (λ l. over_parts sbf c.args.ceiling.now c.climb-climb.result l c.requires.ceiling over c.climb-climb.ensures.enough)
