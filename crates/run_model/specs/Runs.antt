use Rattle.std.specs.Prelude.{ℕ, ◌<◌, ◌≤◌, ◌==◌, ◌&&◌, [], Bool, true, false, not, length, nat_le, nat_lt, take, drop, count_by, slice_index_or}
use Rattle.task_sheet.specs.declared.tasks.Job.{Job}
use Rattle.run_model.specs.declared.run.Run.{Run}
use Rattle.run_model.specs.declared.run.Tick.{Tick}
use Rattle.run_model.specs.declared.run.Tick.TheVariants.{Off, Idle, Runs}

-- what stands past the last job
unfoldable pub no_job : Job
no_job = record { task = 0; arrival = 0; release = 0; cost = 0; segs = [] }

abbrev pub job_at : Run → ℕ → Job
job_at run k = slice_index_or run.jobs k no_job

abbrev pub tick_at : Run → ℕ → Tick
tick_at run t = slice_index_or run.ticks t Off

-- the tick runs job k
abbrev pub runs : ℕ → Tick → Bool
runs k (Runs m) = m == k
runs k Off = false
runs k Idle = false

-- the tick is supplied
abbrev pub is_on : Tick → Bool
is_on (Runs m) = true
is_on Idle = true
is_on Off = false

-- the number of ticks before t that run job k
unfoldable pub service_of : Run → ℕ → ℕ → ℕ
service_of run k t = count_by (runs k) (take t run.ticks)

-- the number of ticks of [t, t + d) that pass a test
unfoldable pub ticks_in : (Tick → Bool) → Run → ℕ → ℕ → ℕ
ticks_in test run t d = count_by test (take d (drop t run.ticks))

-- job k has had the service that it needs
abbrev pub IsDone : Run → ℕ → ℕ → Type 0
IsDone run k t = (job_at run k).cost ≤ service_of run k t

-- job k is there, has been released and is not done
pub record IsPending (run : Run) (k t : ℕ) : Type 0 where
  pub listed : k < length run.jobs
  pub released : (job_at run k).release ≤ t
  pub not_done : service_of run k t < (job_at run k).cost

-- both, as tests
abbrev pub is_done : Run → ℕ → ℕ → Bool
is_done run k t = nat_le (job_at run k).cost (service_of run k t)

abbrev pub is_pending : Run → ℕ → ℕ → Bool
is_pending run k t = nat_lt k (length run.jobs) && (nat_le (job_at run k).release t && not (is_done run k t))
