use Rattle.std.proofs.Common.{◌+◌, arith}
use Rattle.std.proofs.lemmas.Bool.{OnTrue_at}
use Rattle.windows.proofs.KeepFacts.{kept_more}
use Rattle.windows.proofs.keeping.keep_each.Goals as goal

pub loop-j-init : goal.loop-j-init
loop-j-init c = λ j from below. absurd (omega arith)

pub loop-j-preserved : goal.loop-j-preserved
loop-j-preserved c =
    kept_more c.args.arrivals.now c.args.distance c.args.first c.loop-j.j (c.loop-j.j + 1) c.loop-j.invariant
    (OnTrue_at c.if-not-keep_together.false c.keep_together.ensures)

pub returns : goal.returns
returns c = λ j from below. c.loop-j.invariant j from (omega arith)
