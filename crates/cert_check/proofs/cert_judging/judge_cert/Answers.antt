use Rattle.std.proofs.Common.{sym, ◌∙◌}
use Rattle.cert_check.proofs.Soundness.{sound}
use Rattle.cert_check.proofs.cert_judging.judge_cert.Goals as goal

pub returns-clause-bounded : goal.returns-clause-bounded
returns-clause-bounded g c none =
    sound _ _ _ c.args.sheet.now c.args.deadlines c.args.cert.now (c.points_bound.ensures c.args.supply.now c.known.ensures)
    (c.failed_means.ensures c.args.supply.now) c.len-valid.ensures.valid c.requires.served
    c.requires.fits (sym c.first_judged.ensures ∙ none)
