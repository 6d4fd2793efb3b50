use Rattle.std.proofs.Common.{◌≡◌, length}
use Rattle.windows.specs.Crowds.{AreListed}
use Rattle.windows.proofs.crowds.listed_arrivals.Given as goal

abbrev pub invariant-loop-k : goal.invariant-loop-k
invariant-loop-k l = record { count : length l.lists.items ≡ length l.sheet.tasks; listed : AreListed l.run l.k l.lists.items }
