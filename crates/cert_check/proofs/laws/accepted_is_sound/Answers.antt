use Rattle.cert_check.proofs.Soundness.{accepts, holds}
use Rattle.cert_check.proofs.laws.accepted_is_sound.Goals as goal

pub returns-clause-accepted : goal.returns-clause-accepted
returns-clause-accepted g c supply = accepts _ _ _ c.text_has_one_reading.ensures

pub returns-clause-sound : goal.returns-clause-sound
returns-clause-sound g c supply is_supply = holds _ _ _ (c.points_bound.ensures supply is_supply) (c.failed_means.ensures supply) c.text_has_one_reading.ensures
