use Rattle.std.proofs.Common.{◌≡◌, ℕ, ◌<◌, false}
use Rattle.schedule_laws.specs.Tests.{is_overtaken}
use Rattle.schedule_laws.proofs.releases.release_broken.Given as goal

abbrev pub invariant-loop-n : goal.invariant-loop-n
invariant-loop-n l = (m : ℕ) → m < l.n → is_overtaken l.run l.k m ≡ false
