use Rattle.std.proofs.Common.{ℕ, ◌<◌}
use Rattle.windows.specs.Crowds.{IsCrowdedPair}
use Rattle.windows.proofs.crowds.first_crowded_tick.Given as goal

abbrev pub invariant-loop-j : goal.invariant-loop-j
invariant-loop-j l = (k i : ℕ) → k < l.j → IsCrowdedPair l.curve l.arrivals k i → ⊥
