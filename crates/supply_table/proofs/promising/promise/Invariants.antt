use Rattle.std.proofs.Common.{◌≡◌}
use Rattle.lists.specs.Sums.{max_below}
use Rattle.supply_table.specs.Ticks.{wait_of}
use Rattle.supply_table.proofs.WaitFacts.{listed}
use Rattle.supply_table.proofs.promising.promise.Given as goal

abbrev pub invariant-loop-n : goal.invariant-loop-n
invariant-loop-n l = l.times.items ≡ listed (λ n. max_below (wait_of l.ticks.items n) l.once) l.n
