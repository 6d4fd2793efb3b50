use Rattle.std.proofs.Common.{◌≡◌, ℕ, ◌<◌, false}
use Rattle.schedule_laws.specs.Tests.{holds_back}
use Rattle.schedule_laws.proofs.validity.may_run.Given as goal

abbrev pub invariant-loop-n : goal.invariant-loop-n
invariant-loop-n l = (m : ℕ) → m < l.n → holds_back l.run l.k l.t m ≡ false
