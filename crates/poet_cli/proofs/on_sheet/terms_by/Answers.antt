use Rattle.poet_cli.proofs.on_sheet.terms_by.Goals as goal

pub returns-in_err-cert-clause-alike : goal.returns-in_err-cert-clause-alike
returns-in_err-cert-clause-alike g c = (c.terms_change_nothing.ensures c.args.sheet.now).alike c.args.sheet.now c.args.cert
