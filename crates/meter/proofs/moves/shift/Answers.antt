use Rattle.meter.proofs.MoveFacts.{still_seated}
use Rattle.meter.proofs.moves.shift.Goals as goal

pub advance-requires-clause-before : goal.advance-requires-clause-before
advance-requires-clause-before g c =
    still_seated g.P.Policy.meaning c.args.sheet.now c.args.i c.args.from.0 c.args.x _ _ c.requires.before.counted c.turn.ensures
