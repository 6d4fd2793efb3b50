use Rattle.windows.proofs.TimeFacts.{HaveNeeded}
use Rattle.windows.proofs.supplied.off_allowed_by.Given as goal

abbrev pub invariant-loop-i : goal.invariant-loop-i
invariant-loop-i l = HaveNeeded l.needed l.counts l.t l.i
