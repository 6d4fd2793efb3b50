use Rattle.std.proofs.Common.{arith}
use Rattle.audit.proofs.PendingFacts.{pending_here, none_pending}
use Rattle.audit.proofs.waiting.pending_at.Goals as goal

pub returns-then-place-coming : goal.returns-then-place-coming
returns-then-place-coming c =
    none_pending c.args.run.now c.args.t c.args.served.now c.args.coming.now c.args.place c.requires.served c.requires.order
    c.requires.done (λ b. absurd (omega arith))

pub returns-then-arrival-t : goal.returns-then-arrival-t
returns-then-arrival-t c =
    none_pending c.args.run.now c.args.t c.args.served.now c.args.coming.now c.args.place c.requires.served c.requires.order
    c.requires.done (λ b. omega arith)

pub returns : goal.returns
returns c =
    pending_here c.args.run.now c.args.t c.args.served.now c.args.coming.now c.args.place c.requires.served c.requires.order
    (omega arith) (omega arith) (c.requires.undone (omega arith))
