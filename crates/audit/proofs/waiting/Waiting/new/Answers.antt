use Rattle.audit.proofs.PendingFacts.{waiting_none}
use Rattle.audit.proofs.waiting.Waiting.new.Goals as goal

pub returns : goal.returns
returns c = waiting_none c.args.run.now c.in_ok-served.served.items c.in_ok-coming.coming.items c.in_ok-served.ensures c.in_ok-coming.ensures
