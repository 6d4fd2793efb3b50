use Rattle.std.proofs.Common.{◌≡◌}
use Rattle.lists.specs.Sums.{max_below}
use Rattle.supply_table.specs.Ticks.{wait_of}
use Rattle.supply_table.proofs.promising.longest_wait.Given as goal

abbrev pub invariant-loop-i : goal.invariant-loop-i
invariant-loop-i l = l.longest ≡ max_below (wait_of l.ticks l.n) l.i
