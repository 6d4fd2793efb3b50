use Rattle.std.proofs.Common.{arith}
use Rattle.std.proofs.lemmas.Bool.{OnTrue_at}
use Rattle.windows.proofs.KeepFacts.{kept_more}
use Rattle.windows.proofs.keeping.do_keep.Goals as goal

pub loop-first-init : goal.loop-first-init
loop-first-init c = record { apart = omega arith; kept = λ j from below. absurd (omega arith) }

pub loop-first-preserved : goal.loop-first-preserved
loop-first-preserved c = record {
  apart = omega (arith, c.loop-first.invariant.apart, c.block_end-until.ensures.after);
  kept = kept_more c.args.arrivals.now c.args.distance c.args.distance.apart c.loop-first.first c.block_end-until.result
      c.loop-first.invariant.kept (OnTrue_at c.if-not-keep_block.false c.keep_block.ensures);
}

pub returns : goal.returns
returns c = λ j from below. c.loop-first.invariant.kept j from (omega arith)
