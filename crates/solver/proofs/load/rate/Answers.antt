use Rattle.std.proofs.Common.{◌*◌, arith}
use Rattle.std.proofs.Math.Nat.{div-le_self}
use Rattle.solver.proofs.load.rate.Goals as goal

pub returns-clause-bound : goal.returns-clause-bound
returns-clause-bound c = omega (arith, c.load.ensures.bound, div-le_self (c.load.result * 68719476736) c.horizon.result)
