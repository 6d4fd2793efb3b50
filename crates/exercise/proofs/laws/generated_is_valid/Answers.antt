use Rattle.exercise.proofs.SheetFacts.{sheet_valid}
use Rattle.exercise.proofs.laws.generated_is_valid.Goals as goal

pub returns : goal.returns
returns c = sheet_valid
