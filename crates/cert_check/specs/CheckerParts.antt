use Rattle.std.specs.Prelude.{ℕ, Bool, List}
use Rattle.task_sheet.specs.SheetParts.{SheetParts}
use Rattle.certificate.specs.Progress.{Progress}
use Rattle.cert_check.specs.declared.judged.Judged.{Judged}

-- what a checker keeps, but for its meter
pub record CheckerParts (S : Type 0) : Type 0 where
  pub sheet : SheetParts
  pub supply : S
  pub deadlines : Bool
  pub lines : Progress
  pub judged : Judged
  pub bounds : List ℕ
