use Rattle.poet_text.proofs.SeenFacts.{printable}
use Rattle.poet_cli.proofs.auditing.print_on.Goals as goal

pub print_of-requires : goal.print_of-requires
print_of-requires c = printable c.args.sheet.now c.args.run.now _ c.in_ok-verdict.verdict c.in_ok-verdict.ensures.exact
