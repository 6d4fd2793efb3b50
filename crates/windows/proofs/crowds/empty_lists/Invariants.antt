use Rattle.std.proofs.Common.{◌≡◌, length}
use Rattle.windows.specs.Crowds.{AreEmpty}
use Rattle.windows.proofs.crowds.empty_lists.Given as goal

abbrev pub invariant-loop-list : goal.invariant-loop-list
invariant-loop-list l = record { count : length l.lists.items ≡ l._list; empty : AreEmpty l.lists.items }
