-- Sheets with other priorities.
use Rattle.std.specs.Prelude.{ℕ, slice_set}
use Rattle.task_sheet.specs.SheetParts.{SheetParts}
use Rattle.task_sheet.specs.Sheets.{task_at}
use Rattle.task_sheet.specs.declared.tasks.PolicyKind.TheVariants.{Fp}
use Rattle.task_sheet.specs.declared.tasks.Task.{Task}

-- the task with this priority, otherwise unchanged
abbrev pub prioritized : Task → ℕ → Task
prioritized t p = record {
  name = t.name;
  cost = t.cost;
  deadline = t.deadline;
  priority = p;
  jitter = t.jitter;
  point = t.point;
  curve = t.curve;
  cut = t.cut;
}

-- the sheet in which task i has this priority
abbrev pub with_priority : SheetParts → ℕ → ℕ → SheetParts
with_priority sheet i p = record { policy = sheet.policy; supply = sheet.supply; tasks = slice_set sheet.tasks i (prioritized (task_at sheet i) p) }

-- the sheet under fixed priorities
abbrev pub with_fp : SheetParts → SheetParts
with_fp sheet = record { policy = Fp; supply = sheet.supply; tasks = sheet.tasks }
