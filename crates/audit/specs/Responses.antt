-- What is seen of each task.
use Rattle.std.specs.Prelude.{ℕ, zero, suc, not, ◌+◌, ◌-◌, ◌==◌, ◌&&◌, List, [], ◌∷◌, ◌++◌, Bool, cond, length, Option, Some, None}
use Rattle.lists.specs.Sums.{sum_below, max_below}
use Rattle.lists.specs.Firsts.{must, first_below}
use Rattle.run_model.specs.declared.run.Run.{Run}
use Rattle.run_model.specs.Runs.{job_at, is_done}
use Rattle.audit.specs.declared.verdict.Seen.{Seen}

-- the first tick before n at which job k is done
unfoldable pub done_before : Run → ℕ → ℕ → Option ℕ
done_before run k n = first_below (λ t. must (not (is_done run k t)) t) n

-- the ticks from an arrival to a completion, and 0 where there is none
abbrev pub since : ℕ → Option ℕ → ℕ
since arrival None = 0
since arrival (Some t) = t - arrival

-- the response time of job k, where it is done by the end of the run
abbrev pub response_of : Run → ℕ → ℕ
response_of run k = since (job_at run k).arrival (done_before run k (length run.ticks + 1))

-- how many of the numbers below n pass a test
abbrev pub count_below : (ℕ → Bool) → ℕ → ℕ
count_below test n = sum_below (λ k. cond (test k) 1 0) n

-- job k is of task i
abbrev pub is_of : Run → ℕ → ℕ → Bool
is_of run i k = (job_at run k).task == i

-- of the first n jobs those of task i, those done by the end of the run, and the greatest of their response times
unfoldable pub seen_among : Run → ℕ → ℕ → Seen
seen_among run i n = record {
  jobs = count_below (is_of run i) n;
  done = count_below (λ k. is_of run i k && is_done run k (length run.ticks)) n;
  worst = max_below (λ k. cond (is_of run i k) (response_of run k) 0) n;
}

-- what is seen of task i
abbrev pub seen_of : Run → ℕ → Seen
seen_of run i = seen_among run i (length run.jobs)

-- what is seen of the first n tasks
abbrev pub seen_below : Run → ℕ → List Seen
seen_below run zero = []
seen_below run (suc n) = seen_below run n ++ seen_of run n ∷ []
