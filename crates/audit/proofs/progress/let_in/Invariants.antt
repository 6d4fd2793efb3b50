use Rattle.audit.specs.Pending.{HasCome}
use Rattle.audit.proofs.progress.let_in.Given as goal

abbrev pub invariant-loop-i : goal.invariant-loop-i
invariant-loop-i g l = HasCome g.P.Policy.meaning l.sheet l.run l.t l.served l.coming l.i l.queue.jobs
