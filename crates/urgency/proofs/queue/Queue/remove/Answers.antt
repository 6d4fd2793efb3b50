use Rattle.urgency.proofs.QueueFacts.{queue_without}
use Rattle.urgency.proofs.queue.Queue.remove.Goals as goal

pub returns : goal.returns
returns g c = λ jobs test has q. queue_without g.P.Policy.meaning c.args.sheet.now jobs test c.args.self.now.jobs _ c.args.job.now
    c.args.number has (rw c.rank_of-rank.ensures at c.remove.ensures.updates) q
