-- An exercise is never refused.
use Rattle.std.proofs.Common.{◌≡◌, ℕ, ◌+◌, ◌≤◌, None, List, length, take, arith}
use Rattle.std.proofs.lemmas.Bool.{lt-ltb, le-leb}
use Rattle.std.proofs.lemmas.List.Sums.{sum_by-take-le}
use Rattle.lists.proofs.FirstFacts.{first_from, must_from, none_from}
use Rattle.task_sheet.specs.declared.tasks.Job.{Job}
use Rattle.run_text.specs.Text.{segments_of}
use Rattle.simulated_run.specs.declared.mode.Mode.TheVariants.{Dense}
use Rattle.simulator.specs.Simulations.{passed_at, refused_by}
use Rattle.exercise.specs.Exercises.{best_cert_of, dense_run_of}
use Rattle.exercise.specs.Laws.{Succeeds}
use Rattle.exercise.proofs.CertFacts.{has_best}
use Rattle.exercise.proofs.JobFacts.{IsEarlyRun, jobs_few, segments_most, run_early}

-- few jobs with few segments pass no limit
pub none_passed : (jobs : List Job) → length jobs ≤ 20000 → segments_of jobs ≤ 1000000 → refused_by jobs ≡ None
unfolding refused_by
none_passed jobs few_jobs few_segments = none_from (passed_at jobs) (length jobs) (λ k b.
    first_from _ _ (must_from _ _ (lt-ltb k 20000 (omega arith)))
    (must_from _ _ (le-leb (segments_of (take (k + 1) jobs)) 1000000 (omega (arith, sum_by-take-le (λ (j : Job). length j.segs) jobs (k + 1))))))

pub run_is_early : (seed tasks : ℕ) → 1 ≤ tasks → tasks ≤ 64 → IsEarlyRun seed tasks 10000 (dense_run_of seed tasks)
unfolding dense_run_of
run_is_early seed tasks some few = run_early seed tasks 10000 Dense some few

pub succeeds : (seed tasks : ℕ) → 1 ≤ tasks → tasks ≤ 64 → Succeeds seed tasks
unfolding best_cert_of
succeeds seed tasks some few =
    let found = has_best seed tasks some few in
    let early = run_is_early seed tasks some few in
    let jobs = jobs_few seed tasks 10000 (dense_run_of seed tasks) some early in
    record {
      cert = found.cert;
      best = found.best;
      within_limits = none_passed (dense_run_of seed tasks).jobs (omega arith) (omega (arith, segments_most seed tasks 10000 (dense_run_of seed tasks) early));
    }
