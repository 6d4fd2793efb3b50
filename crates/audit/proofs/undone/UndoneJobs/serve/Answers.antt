use Rattle.audit.proofs.UndoneFacts.{undone_more}
use Rattle.audit.proofs.ServedFacts.{served_written}
use Rattle.audit.proofs.undone.UndoneJobs.serve.Goals as goal

pub returns : goal.returns
returns c =
    undone_more c.args.run.now c.args.t c.args.self.now.served.items _ c.args.self.now.order.items c.args.self.now.nexts.items c.args.self.now.places.items
    c.requires.tick c.requires.undone
    (served_written c.args.run.now c.args.t _ c.args.self.now.served.len c.serve.new.served c.args.self.now.served.items
    c.args.self.now.served.ok.0 c.requires.undone.counted c.serve.ensures)
