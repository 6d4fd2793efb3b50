use Rattle.std.proofs.Common.{arith}
use Rattle.solver.proofs.LoadFacts.{window_risen, windows_both}
use Rattle.solver.proofs.caps.longest_window.Goals as goal

pub loop-long-init : goal.loop-long-init
loop-long-init g c = record { some = omega arith; below = λ l from to enough. omega arith; within = omega arith }

pub crossing-requires-clause-cut : goal.crossing-requires-clause-cut
crossing-requires-clause-cut g c = c.class_line-line.ensures.small.cut

pub loop-long-preserved : goal.loop-long-preserved
loop-long-preserved g c =
    let p = g.P.Policy.meaning in
    let m = g.M.Preemption.cuts in
    let sheet = c.args.sheet.now in
    let sbf = g.S.Supply.sbf c.args.supply.now in
    let over = c.ceiling-ceiling.ensures.over in
    let single = window_risen p m sheet c.args.i sbf c.args.window c.args.horizon c.args.wanted c.crossing.result c.class_line-line.result c.requires.wanted
    c.class_line-line.ensures.under (c.crossing.ensures.below sbf over) in
    let more = windows_both p m sheet c.args.i sbf c.args.window c.args.horizon c.loop-long.bound c.crossing.result c.max-bound.result
    (omega (arith, c.max-bound.ensures)) c.loop-long.invariant.below single in
    record {
      some = omega (arith, c.loop-long.invariant.some);
      below = windows_both p m sheet c.args.i sbf c.args.window c.args.horizon c.max-bound.result c.class_bound.result c.max-bound-in-loop-long.result
          (omega (arith, c.max-bound-in-loop-long.ensures)) more (c.class_bound.ensures.below sbf over);
      within = omega (arith, c.loop-long.invariant.within, c.crossing.ensures.within, c.max-bound.ensures, c.class_bound.ensures.within, c.max-bound-in-loop-long.ensures);
    }
