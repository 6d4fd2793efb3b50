use Rattle.std.proofs.Common.{arith}
use Rattle.solver.proofs.Jumps.{end_here}
use Rattle.solver.proofs.LoadFacts.{ends_skipped}
use Rattle.solver.proofs.searches.least_end.Goals as goal

pub returns-then-next-end : goal.returns-then-next-end
returns-then-next-end g c = (
  omega arith,
  end_here _ _ _ _ c.laws.ensures _ _ _ c.in-Some.next (omega arith)
      (omega (arith, c.in-Some.ensures.1.holds)) c.loop-end.invariant,
)

pub end_bound-load-requires-clause-few : goal.end_bound-load-requires-clause-few
end_bound-load-requires-clause-few g c =
    omega (arith, c.in-Some.ensures.1.holds, c.laws.ensures.within c.in-Some.next, c.in-Some.ensures.0, c.requires.limit)

pub loop-end-preserved : goal.loop-end-preserved
loop-end-preserved g c =
    let laws = c.laws.ensures in
    λ k lt. ends_skipped _ _ _ _ _ (g.S.Supply.sbf c.args.supply.now) c.loop-end.end c.in-Some.next c.args.limit
    c.end_bound-load.result k c.loop-end.invariant
    (λ j n h. laws.need_grows c.args.i c.args.a j n c.requires.task h)
    (λ d h. c.in-Some.ensures.1.least d (omega (arith, h, c.need-wanted.ensures.exact)))
    c.end_bound-load.ensures.within c.end_bound-load.ensures.below (omega (arith, lt, c.max-end.ensures))
