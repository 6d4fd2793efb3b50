use Rattle.windows.proofs.KeepFacts.{kept_together}
use Rattle.std.proofs.lemmas.Bool.{OnTrue_from, leb-true}
use Rattle.windows.proofs.keeping.keep_together.Goals as goal

pub returns : goal.returns
returns c = OnTrue_from _ _ (λ far.
    kept_together c.args.arrivals.now c.args.distance c.args.first c.args.last c.requires.ascending c.requires.apart
    c.requires.listed c.if-end-start.false (leb-true _ _ far))
