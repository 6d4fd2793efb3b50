use Rattle.audit.specs.UndoneJobs.{AreLinked}
use Rattle.audit.proofs.undone.next_places.Given as goal

abbrev pub invariant-loop-i : goal.invariant-loop-i
invariant-loop-i l = AreLinked l.run l.order l.i l.firsts.items l.nexts.items
