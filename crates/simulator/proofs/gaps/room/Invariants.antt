use Rattle.std.proofs.Common.{ℕ, ◌<◌}
use Rattle.simulator.proofs.RoomFacts.{LetsCome}
use Rattle.simulator.proofs.gaps.room.Given as goal

abbrev pub invariant-loop-n : goal.invariant-loop-n
invariant-loop-n l = (m : ℕ) → m < l.n → LetsCome l.gaps.gaps.items l.gaps.densest.items l.arrivals l.t m
