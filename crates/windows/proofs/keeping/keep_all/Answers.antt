use Rattle.std.proofs.Common.{◌+◌, arith}
use Rattle.std.proofs.lemmas.Bool.{OnTrue_at}
use Rattle.windows.proofs.DistanceFacts.{none_below}
use Rattle.windows.proofs.KeepFacts.{all_more}
use Rattle.windows.proofs.keeping.keep_all.Goals as goal

pub loop-n-preserved : goal.loop-n-preserved
loop-n-preserved c =
    all_more c.args.arrivals.now c.args.needed.now c.loop-n.n c.loop-n.invariant (OnTrue_at c.if-not-do_keep.false c.do_keep.ensures)

pub returns : goal.returns
returns c = λ j i below pair.
    none_below c.args.curve.now c.args.arrivals.now c.requires.ascending c.requires.early c.args.needed.now c.requires.needed
    (λ n b. c.loop-n.invariant n (omega arith)) (j + 1) j i (omega arith) below pair
