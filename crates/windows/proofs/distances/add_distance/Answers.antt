use Rattle.std.proofs.Common.{◌+◌, sym, subst, refl}
use Rattle.windows.specs.Distances.{AreNeededBelow}
use Rattle.windows.proofs.DistanceFacts.{needed_more}
use Rattle.windows.proofs.distances.add_distance.Goals as goal

pub returns : goal.returns
returns c =
    subst (AreNeededBelow c.args.spans.now (c.args.m + 1)) (sym c.in_ok-push.ensures.items)
    (needed_more c.args.spans.now c.args.needed.now.items c.args.m c.requires.needed _ refl refl)
