use Rattle.std.proofs.Common.{◌≡◌, ℕ, ◌<◌, false}
use Rattle.schedule_laws.specs.Tests.{is_crowded_since}
use Rattle.schedule_laws.proofs.arrivals.crowded.Given as goal

abbrev pub invariant-loop-n : goal.invariant-loop-n
invariant-loop-n l = (m : ℕ) → m < l.n → is_crowded_since l.sheet l.run l.k m ≡ false
