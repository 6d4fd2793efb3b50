use Rattle.urgency.proofs.QueueFacts.{queue_top}
use Rattle.urgency.proofs.queue.Queue.first.Goals as goal

pub returns : goal.returns
returns c = λ p sheet jobs test q. queue_top p sheet jobs test c.args.self.now.jobs c.first_entry.result q c.first_entry.ensures
