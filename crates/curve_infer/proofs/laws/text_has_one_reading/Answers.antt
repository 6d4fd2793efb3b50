use Rattle.curve_infer.proofs.ReadingFacts.{one_reading_each}
use Rattle.curve_infer.proofs.laws.text_has_one_reading.Goals as goal

pub returns : goal.returns
returns c = one_reading_each
