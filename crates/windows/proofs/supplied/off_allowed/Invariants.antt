use Rattle.windows.proofs.PromiseWindows.{HaveTimes}
use Rattle.windows.proofs.supplied.off_allowed.Given as goal

abbrev pub invariant-loop-i : goal.invariant-loop-i
invariant-loop-i l = HaveTimes l.time-items l.counts l.t l.i
