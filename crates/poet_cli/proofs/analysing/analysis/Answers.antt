use Rattle.std.proofs.Common.{◌∙◌}
use Rattle.poet_cli.proofs.JudgeFacts.{analysis_judged}
use Rattle.poet_cli.proofs.analysing.analysis.Goals as goal

pub returns-in-Ok-write_cert : goal.returns-in-Ok-write_cert
returns-in-Ok-write_cert c =
    analysis_judged c.args.sheet.now c.args.horizon c.in-Ok.cert c.new.result
    (c.new.ensures ∙ c.in-Ok-write_cert.ensures) c.in-Ok.ensures.exact c.in-Ok.ensures.best
