use Rattle.std.proofs.Common.{◌≡◌, ℕ, ◌<◌, true}
use Rattle.schedule_laws.specs.Tests.{does_fit}
use Rattle.audit.proofs.jobs.first_unfit.Given as goal

abbrev pub invariant-loop-k : goal.invariant-loop-k
invariant-loop-k g l = (n : ℕ) → n < l.k → does_fit g.M.Preemption.cuts l.sheet l.run n ≡ true
