use Rattle.poet_cli.proofs.AnalysisFacts.{best_from}
use Rattle.poet_cli.proofs.on_sheet.best_by.Goals as goal

pub returns-clause-best : goal.returns-clause-best
returns-clause-best g c =
    let sheet = c.args.sheet.now in
    best_from g.P.Policy.meaning sheet c.args.horizon (c.accepted_is_sound.ensures.accepted sheet)
    (c.accepted_is_sound.ensures.sound sheet c.known.ensures) c.known.ensures c.analyse.result c.analyse.ensures.best
    c.analyse.ensures.meets c.analyse.ensures.within
    c.analyse.ensures.up_to c.analyse.ensures.least
