use Rattle.audit.specs.Pending.{AreDoneTo}
use Rattle.audit.proofs.waiting.next_undone.Given as goal

abbrev pub invariant-loop-i : goal.invariant-loop-i
invariant-loop-i l = AreDoneTo l.run l.served l.coming l.i
