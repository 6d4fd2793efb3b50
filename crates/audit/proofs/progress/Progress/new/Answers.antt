use Rattle.audit.specs.Pending.{is_waiting}
use Rattle.audit.proofs.PendingFacts.{come_none, none_waiting}
use Rattle.audit.proofs.progress.Progress.new.Goals as goal

pub returns : goal.returns
returns c = λ p sheet.
    come_none p sheet c.args.run.now _ _ _ c.in_ok-served.ensures c.in_ok-coming.ensures
    (c.new.ensures p sheet c.args.run.now.jobs (is_waiting c.args.run.now c.in_ok-coming.coming.items 0 0)
    (λ k b. none_waiting c.args.run.now c.in_ok-coming.coming.items 0 k))
