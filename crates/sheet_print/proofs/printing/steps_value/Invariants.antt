use Rattle.std.proofs.Common.{◌≡◌, map, take}
use Rattle.toml.specs.View.{view}
use Rattle.sheet_print.specs.Printed.{step_data}
use Rattle.sheet_print.proofs.printing.steps_value.Given as goal

abbrev pub invariant-steps : goal.invariant-steps
invariant-steps l = map view l.values.items ≡ map step_data (take l.step-index l.steps)
