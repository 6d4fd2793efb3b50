use Rattle.std.proofs.Common.{cond, sym, subst}
use Rattle.urgency.specs.Queues.{IsQueue, with_member}
use Rattle.audit.proofs.progress.enter.Goals as goal

pub returns-then-not-waits : goal.returns-then-not-waits
returns-then-not-waits g c = λ run test has q. subst
    (λ w. IsQueue g.P.Policy.meaning c.args.sheet.now run.jobs (cond w (with_member test c.args.k) test) c.args.queue.now.jobs) (sym c.if-not-waits.true) q

pub returns : goal.returns
returns g c = λ run test has q. subst
    (λ w. IsQueue g.P.Policy.meaning c.args.sheet.now run.jobs (cond w (with_member test c.args.k) test) c.insert.new.self.jobs)
    (sym c.if-not-waits.false) (c.in_ok-insert.ensures run.jobs test has q)
