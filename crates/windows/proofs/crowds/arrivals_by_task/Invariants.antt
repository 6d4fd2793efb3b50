use Rattle.std.proofs.Common.{◌≡◌, length}
use Rattle.windows.proofs.ListedFacts.{AreHalfSorted}
use Rattle.windows.proofs.crowds.arrivals_by_task.Given as goal

abbrev pub invariant-loop-o : goal.invariant-loop-o
invariant-loop-o l = record { count : length l.lists.items ≡ length l.sheet.tasks; half : AreHalfSorted l.run l.o l.lists.items }
