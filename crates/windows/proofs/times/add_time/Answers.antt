use Rattle.std.proofs.Common.{◌+◌, sym, subst, refl}
use Rattle.windows.specs.Times.{AreNeededTimesBelow}
use Rattle.windows.proofs.TimeFacts.{times_more}
use Rattle.windows.proofs.times.add_time.Goals as goal

pub returns : goal.returns
returns c =
    subst (AreNeededTimesBelow c.args.times.now (c.args.k + 1)) (sym c.in_ok-push.ensures.items)
    (times_more c.args.times.now c.args.needed.now.items c.args.k c.requires.needed _ refl refl)
