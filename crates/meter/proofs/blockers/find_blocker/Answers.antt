use Rattle.std.proofs.Common.{arith}
use Rattle.meter.proofs.BlockerFacts.{found}
use Rattle.meter.proofs.blockers.find_blocker.Goals as goal

pub returns : goal.returns
returns g c =
    let is = c.loop-o.invariant in
    found g.P.Policy.meaning g.M.Preemption.cuts c.args.sheet.now c.args.i c.args.a c.loop-o.o c.loop-o.longest is.in_range is.high is.greatest (omega arith)
