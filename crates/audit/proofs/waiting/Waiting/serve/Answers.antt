use Rattle.audit.proofs.PendingFacts.{waiting_more}
use Rattle.audit.proofs.ServedFacts.{served_written}
use Rattle.audit.proofs.waiting.Waiting.serve.Goals as goal

pub returns : goal.returns
returns c =
    waiting_more c.args.run.now c.args.t c.args.self.now.served.items _ c.args.self.now.coming.items c.args.self.now.place
    c.requires.tick c.requires.waiting
    (served_written c.args.run.now c.args.t _ c.args.self.now.served.len c.serve.new.served c.args.self.now.served.items
    c.args.self.now.served.ok.0 c.requires.waiting.counted c.serve.ensures)
