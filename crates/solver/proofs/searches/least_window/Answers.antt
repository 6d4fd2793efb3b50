use Rattle.std.proofs.Common.{arith}
use Rattle.solver.proofs.LoadFacts.{windows_skipped}
use Rattle.solver.proofs.searches.least_window.Goals as goal

pub window_bound-load-requires-clause-few : goal.window_bound-load-requires-clause-few
window_bound-load-requires-clause-few g c =
    omega (arith, c.in-Some.ensures.1.holds, c.laws.ensures.within c.in-Some.next, c.in-Some.ensures.0, c.requires.horizon)

pub loop-window-preserved : goal.loop-window-preserved
loop-window-preserved g c =
    let laws = c.laws.ensures in
    record {
      positive = omega (arith, c.loop-window.invariant.positive, c.max-window.ensures);
      below = λ k lt. windows_skipped _ _ _ _ (g.S.Supply.sbf c.args.supply.now) c.loop-window.window c.in-Some.next c.args.horizon
          c.window_bound-load.result k c.loop-window.invariant.below
          (λ j n h. laws.window_grows c.args.i j n c.requires.task h)
          (λ d h. c.in-Some.ensures.1.least d (omega (arith, h, c.window_need-wanted.ensures.exact)))
          c.window_bound-load.ensures.within c.window_bound-load.ensures.below (omega (arith, lt, c.max-window.ensures));
    }
