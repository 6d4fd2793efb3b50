use Rattle.std.proofs.Common.{◌≡◌, ℕ, ◌<◌, true}
use Rattle.run_model.specs.Runs.{is_pending}
use Rattle.audit.proofs.idling.first_pending.Given as goal

abbrev pub invariant-loop-k : goal.invariant-loop-k
invariant-loop-k l = (j : ℕ) → j < l.k → is_pending l.run j l.t ≡ true → ⊥
