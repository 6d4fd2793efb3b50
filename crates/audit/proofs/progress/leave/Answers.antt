use Rattle.std.proofs.Common.{cond, sym, subst}
use Rattle.urgency.specs.Queues.{IsQueue, without}
use Rattle.audit.proofs.progress.leave.Goals as goal

pub returns-then-not-done : goal.returns-then-not-done
returns-then-not-done g c = λ run test has q. subst
    (λ w. IsQueue g.P.Policy.meaning c.args.sheet.now run.jobs (cond w (without test c.args.k) test) c.args.queue.now.jobs) (sym c.if-not-done.true) q

pub returns : goal.returns
returns g c = λ run test has q. subst
    (λ w. IsQueue g.P.Policy.meaning c.args.sheet.now run.jobs (cond w (without test c.args.k) test) c.remove.new.self.jobs)
    (sym c.if-not-done.false) (c.remove.ensures run.jobs test has q)
