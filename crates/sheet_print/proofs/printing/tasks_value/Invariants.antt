use Rattle.std.proofs.Common.{◌≡◌, map, take}
use Rattle.toml.specs.View.{view}
use Rattle.sheet_print.specs.Printed.{task_data}
use Rattle.sheet_print.proofs.printing.tasks_value.Given as goal

abbrev pub invariant-tasks : goal.invariant-tasks
invariant-tasks l = map view l.values.items ≡ map task_data (take l.i l.sheet.tasks)
