use Rattle.std.proofs.Common.{◌≡◌, map, take}
use Rattle.toml.specs.View.{view}
use Rattle.sheet_print.specs.Printed.{number_data}
use Rattle.sheet_print.proofs.printing.numbers_value.Given as goal

abbrev pub invariant-numbers : goal.invariant-numbers
invariant-numbers l = map view l.values.items ≡ map number_data (take l.n-index l.numbers)
