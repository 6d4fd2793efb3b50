use Rattle.std.proofs.Common.{◌≡◌, ℕ, ◌<◌, true}
use Rattle.schedule_laws.specs.Tests.{is_priority_broken}
use Rattle.schedule_laws.proofs.rules.priority_broken.Given as goal

abbrev pub invariant-loop-n : goal.invariant-loop-n
invariant-loop-n g l = (j : ℕ) → j < l.n → is_priority_broken g.P.Policy.meaning g.M.Preemption.cuts l.sheet l.run l.t j ≡ true → ⊥
