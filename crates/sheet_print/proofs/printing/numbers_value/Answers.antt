use Rattle.sheet_print.proofs.PrintedFacts.{number_fits}
use Rattle.sheet_print.proofs.printing.numbers_value.Goals as goal

pub number_value-requires : goal.number_value-requires
number_value-requires c = number_fits c.args.numbers.now c.numbers.n-index 0 c.requires c.numbers-test.true
