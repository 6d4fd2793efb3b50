use Rattle.std.proofs.Common.{arith}
use Rattle.schedule_laws.proofs.rules.priority_broken.Goals as goal

pub returns : goal.returns
returns g c = λ n below. c.loop-n.invariant n (omega arith)
