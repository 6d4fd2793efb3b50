use Rattle.std.proofs.Common.{◌≡◌, ℕ, ◌<◌, true}
use Rattle.audit.specs.TickRules.{is_urgent_by}
use Rattle.audit.proofs.priorities.first_urgent.Given as goal

abbrev pub invariant-loop-k : goal.invariant-loop-k
invariant-loop-k g l = (j : ℕ) → j < l.k → is_urgent_by g.P.Policy.meaning l.sheet l.run l.key l.t j ≡ true → ⊥
