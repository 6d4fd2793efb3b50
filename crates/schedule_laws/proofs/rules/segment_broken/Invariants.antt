use Rattle.std.proofs.Common.{◌≡◌, ℕ, ◌<◌, true}
use Rattle.schedule_laws.specs.Tests.{is_segment_broken}
use Rattle.schedule_laws.proofs.rules.segment_broken.Given as goal

abbrev pub invariant-loop-k : goal.invariant-loop-k
invariant-loop-k g l = (j : ℕ) → j < l.k → is_segment_broken g.M.Preemption.cuts l.sheet l.run l.t j ≡ true → ⊥
