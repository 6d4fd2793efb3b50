use Rattle.std.proofs.Common.{◌≡◌, ◌+◌, ◌-◌, arith}
use Rattle.simulator.specs.Gaps.{gap_at, opened_by, with_more}
use Rattle.simulator.proofs.MoreFacts.{opened_near, seen_start, seen_next, seen_end, rest_early}
use Rattle.simulator.proofs.gaps.earliest_after.Goals as goal

pub loop-i-init : goal.loop-i-init
loop-i-init c = seen_start c.args.gaps.now c.args.arrivals.now c.args.n c.args.t _ c.counted-count.ensures.far

pub loop-i-preserved : goal.loop-i-preserved
loop-i-preserved c =
    let ys = with_more c.args.arrivals.now c.args.n c.args.t in
    let j = c.loop-i.i - 1 in
    let is : c.before-in-loop-i.result + (gap_at c.args.gaps.now j).distance ≡ opened_by ys (gap_at c.args.gaps.now j) =
    omega (
      arith,
      c.before-in-loop-i.ensures.job,
      opened_near c.args.arrivals.now c.args.n c.args.t (gap_at c.args.gaps.now j) (c.counted-count.ensures.near j (omega arith)),
    ) in
    seen_next c.args.gaps.now ys c.loop-i.i j c.loop-i.tick _ c.max-tick.result c.loop-i.invariant (omega arith)
    (omega (arith, c.counted-count.ensures.few)) is c.max-tick.ensures

pub returns-after-loop-i : goal.returns-after-loop-i
returns-after-loop-i c =
    seen_end c.args.gaps.now (with_more c.args.arrivals.now c.args.n c.args.t) c.loop-i.i c.loop-i.tick c.loop-i.invariant
    (λ k h b. absurd (omega (arith, h)))

pub returns-then-latest-gaps : goal.returns-then-latest-gaps
returns-then-latest-gaps c =
    seen_end c.args.gaps.now (with_more c.args.arrivals.now c.args.n c.args.t) c.loop-i.i c.loop-i.tick c.loop-i.invariant
    (rest_early c.args.gaps.now c.args.arrivals.now c.args.n c.args.t c.loop-i.i c.loop-i.tick c.before-latest.result
    c.requires.low c.requires.rising c.requires.ascending (λ k h. c.counted-count.ensures.near k (omega (arith, h))) (omega arith)
    (omega (arith, c.counted-count.ensures.few)) c.before-latest.ensures.job c.if-latest-gaps.true)
