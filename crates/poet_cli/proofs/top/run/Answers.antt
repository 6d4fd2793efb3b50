use Rattle.std.proofs.Common.{None, Err, refl}
use Rattle.poet_text.specs.declared.refusal.Refusal.TheVariants.{Usage}
use Rattle.poet_cli.proofs.DoesFacts.{told_did}
use Rattle.poet_cli.proofs.top.run.Goals as goal

pub returns-in-None : goal.returns-in-None
returns-in-None g c = rw c.in-None.ensures.defined (told_did None _ _ _ (Err Usage) (record { none = refl; does = refl }) c.tell.ensures)
