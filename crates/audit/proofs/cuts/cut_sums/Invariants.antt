use Rattle.std.proofs.Common.{◌≡◌, ◌<◌, ℕ, length, get_or}
use Rattle.std.specs.Global.{Vec}
use Rattle.run_model.specs.Runs.{job_at}
use Rattle.audit.specs.CutSums.{sums_from}
use Rattle.audit.proofs.cuts.cut_sums.Given as goal

abbrev pub invariant-loop-job : goal.invariant-loop-job
invariant-loop-job g l = record {
  count : length l.sums.items ≡ l.job-index;
  each : (k : ℕ) (d : Vec ℕ) → k < l.job-index → (get_or l.sums.items k d).items ≡ sums_from 0 (job_at l.run k).segs;
}
