use Rattle.std.proofs.Common.{◌≡◌, ℕ, ◌<◌, true}
use Rattle.schedule_laws.specs.Tests.{is_idle_broken}
use Rattle.schedule_laws.proofs.rules.idle_broken.Given as goal

abbrev pub invariant-loop-k : goal.invariant-loop-k
invariant-loop-k l = (j : ℕ) → j < l.k → is_idle_broken l.run l.t j ≡ true → ⊥
