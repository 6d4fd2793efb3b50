use Rattle.run_model.specs.Runs.{is_pending}
use Rattle.audit.proofs.PendingFacts.{ready_pending}
use Rattle.audit.proofs.progress.Progress.first.Goals as goal

pub returns : goal.returns
returns g c =
    let m = c.args.self.now in
    c.first.ensures g.P.Policy.meaning c.args.sheet.now c.args.run.now.jobs (λ k. is_pending c.args.run.now k c.args.t)
    (ready_pending g.P.Policy.meaning c.args.sheet.now c.args.run.now c.args.t m.served.items m.coming.items m.next m.queue.jobs c.requires.ready)
