use Rattle.std.proofs.Common.{ℕ, ◌<◌}
use Rattle.windows.specs.Crowds.{ArrivesAt}
use Rattle.windows.proofs.crowds.first_at.Given as goal

abbrev pub invariant-loop-k : goal.invariant-loop-k
invariant-loop-k l = (m : ℕ) → m < l.k → ArrivesAt l.run l.o l.tick m → ⊥
