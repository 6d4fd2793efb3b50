-- Pending jobs, as a fact and as a test.
use Rattle.std.proofs.Common.{◌≡◌, ℕ, ◌<◌, ◌&&◌, true, false, not, length, arith, leb, ltb}
use Rattle.std.proofs.lemmas.Bool.{and_parts, and_from, not-true, not_from_false, leb-true, leb-false, le-leb, ltb-true, lt-ltb}
use Rattle.std.proofs.lemmas.Bool.Decides.{nat_tests}
use Rattle.run_model.specs.declared.run.Run.{Run}
use Rattle.run_model.specs.Runs.{job_at, service_of, is_done, is_pending, IsPending}

pub pending_from : (run : Run) (k t : ℕ) → is_pending run k t ≡ true → IsPending run k t
pending_from run k t h =
    let parts = and_parts (ltb k (length run.jobs)) (leb (job_at run k).release t && not (is_done run k t)) h in
    let more = and_parts (leb (job_at run k).release t) (not (is_done run k t)) parts.1 in
    record {
      listed = ltb-true k (length run.jobs) parts.0;
      released = leb-true (job_at run k).release t more.0;
      not_done = leb-false (job_at run k).cost (service_of run k t) (not-true (is_done run k t) more.1);
    }

pub undone : (c s : ℕ) → s < c → leb c s ≡ false
undone c s h = grind (arith, nat_tests)

pub pending_to : (run : Run) (k t : ℕ) → IsPending run k t → is_pending run k t ≡ true
pending_to run k t p =
    and_from (ltb k (length run.jobs)) (leb (job_at run k).release t && not (is_done run k t)) (lt-ltb k (length run.jobs) p.listed)
    (and_from (leb (job_at run k).release t) (not (is_done run k t)) (le-leb (job_at run k).release t p.released)
    (not_from_false (is_done run k t) (undone (job_at run k).cost (service_of run k t) p.not_done)))
