-- The response times that are noted so far.
use Rattle.std.specs.Prelude.{◌≡◌, ℕ, ◌<◌, ◌≤◌, List, true, false, length, slice_index_or, Option, Some, None, ◌+◌, max}
use Rattle.run_model.specs.declared.run.Run.{Run}
use Rattle.run_model.specs.Runs.{job_at, is_done}
use Rattle.audit.specs.declared.verdict.Seen.{Seen}
use Rattle.audit.specs.Responses.{since, done_before, seen_among}

-- the response time of job k, if it is done by t
abbrev pub IsResponse : Run → ℕ → ℕ → Option ℕ → Type 0
IsResponse run t k None = is_done run k t ≡ false
IsResponse run t k (Some ticks) = (is_done run k t ≡ true) × (since (job_at run k).arrival (done_before run k (t + 1)) ≡ ticks)

pub record AreResponses (run : Run) (t : ℕ) (responses : List (Option ℕ)) : Type 0 where
  pub count : length responses ≡ length run.jobs
  pub each : (k : ℕ) → k < length run.jobs → IsResponse run t k (slice_index_or responses k None)

-- one more job of the task, with its response time if it is done
abbrev pub with_response : Seen → Option ℕ → Seen
with_response seen None = record { jobs = seen.jobs + 1; done = seen.done; worst = seen.worst }
with_response seen (Some ticks) = record { jobs = seen.jobs + 1; done = seen.done + 1; worst = max seen.worst ticks }

-- nothing is seen of a task
abbrev pub nothing : Seen
nothing = record { jobs = 0; done = 0; worst = 0 }

abbrev pub seen_at : List Seen → ℕ → Seen
seen_at seen i = slice_index_or seen i nothing

-- what is seen of each task among the first n jobs
pub record AreSeen (run : Run) (n : ℕ) (seen : List Seen) : Type 0 where
  pub each : (i : ℕ) → i < length seen → seen_at seen i ≡ seen_among run i n
  pub jobs : (i : ℕ) → i < length seen → (seen_at seen i).jobs ≤ n
  pub done : (i : ℕ) → i < length seen → (seen_at seen i).done ≤ n
