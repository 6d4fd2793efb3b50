use Rattle.std.specs.Prelude.{List}
use Rattle.task_sheet.specs.declared.tasks.PolicyKind.{PolicyKind}
use Rattle.task_sheet.specs.declared.tasks.SupplySpec.{SupplySpec}
use Rattle.task_sheet.specs.declared.tasks.Task.{Task}

-- what a sheet says
pub record SheetParts : Type 0 where
  pub policy : PolicyKind
  pub supply : SupplySpec
  pub tasks : List Task
