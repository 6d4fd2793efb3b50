use Rattle.std.proofs.Common.{◌<◌, ◌≤◌, ℕ, length}
use Rattle.run_model.specs.Runs.{job_at}
use Rattle.compliance_tests.proofs.compliance.all_fit.Given as goal

abbrev pub invariant-loop-k : goal.invariant-loop-k
invariant-loop-k l = record {
  of : (j : ℕ) → j < l.k → (job_at l.run j).task < length l.sheet.tasks;
  early : (j : ℕ) → j < l.k → (job_at l.run j).arrival ≤ 1000000000;
}
