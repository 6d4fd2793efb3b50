use Rattle.std.proofs.Common.{◌≡◌}
use Rattle.conditions.specs.Filled.{entries_with_room}
use Rattle.conditions.proofs.filling.entries_with_room.Given as goal

abbrev pub invariant-loop-entry : goal.invariant-loop-entry
invariant-loop-entry l = l.roomy.items ≡ entries_with_room l.yielded
