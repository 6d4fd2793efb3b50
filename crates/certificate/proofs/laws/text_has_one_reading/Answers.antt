use Rattle.certificate.proofs.ReadingFacts.{one_reading_each}
use Rattle.certificate.proofs.laws.text_has_one_reading.Goals as goal

pub returns : goal.returns
returns c = one_reading_each
