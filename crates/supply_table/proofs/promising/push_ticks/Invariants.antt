use Rattle.std.proofs.Common.{◌≡◌, ◌++◌}
use Rattle.supply_table.specs.Ticks.{numbers_from}
use Rattle.supply_table.proofs.promising.push_ticks.Given as goal

abbrev pub invariant-loop-k : goal.invariant-loop-k
invariant-loop-k l = l.ticks.items ≡ l.fn.ticks.items ++ numbers_from l.from l.k
