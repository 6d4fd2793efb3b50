-- The service of the jobs before a tick.
use Rattle.std.specs.Prelude.{◌≡◌, ℕ, ◌<◌, ◌≤◌, List, length, slice_index_or}
use Rattle.run_model.specs.declared.run.Run.{Run}
use Rattle.run_model.specs.Runs.{service_of}

-- the service of every job before tick t
pub record IsServed (run : Run) (t : ℕ) (served : List ℕ) : Type 0 where
  pub count : length served ≡ length run.jobs
  pub each : (k : ℕ) → k < length run.jobs → slice_index_or served k 0 ≡ service_of run k t
  pub few : (k : ℕ) → k < length run.jobs → slice_index_or served k 0 ≤ t
