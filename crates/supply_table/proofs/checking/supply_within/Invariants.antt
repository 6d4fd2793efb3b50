use Rattle.std.proofs.Common.{◌≡◌, drop}
use Rattle.std.specs.Prelude.{nat_le}
use Rattle.supply_table.specs.Validity.{supplied_sum}
use Rattle.supply_table.proofs.checking.supply_within.Given as goal

abbrev pub invariant-loop-slot : goal.invariant-loop-slot
invariant-loop-slot l = nat_le (supplied_sum (drop l.slot-index l.slots)) l.left ≡ nat_le (supplied_sum l.slots) l.most
