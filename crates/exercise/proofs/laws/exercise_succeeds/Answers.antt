use Rattle.exercise.proofs.LimitFacts.{succeeds}
use Rattle.exercise.proofs.laws.exercise_succeeds.Goals as goal

pub returns : goal.returns
returns c = succeeds
