-- What is known of the releases of the first jobs, in the order of their arrivals.
use Rattle.std.specs.Prelude.{◌≡◌, ℕ, ◌<◌, ◌≤◌, List, length, min, true, false, slice_index_or, Option, Some, None}
use Rattle.task_sheet.specs.SheetParts.{SheetParts}
use Rattle.run_model.specs.declared.run.Run.{Run}
use Rattle.run_model.specs.Runs.{job_at}
use Rattle.schedule_laws.specs.Tests.{is_release_broken}
use Rattle.audit.specs.declared.arrivals.Arrival.{Arrival}
use Rattle.audit.specs.ArrivalOrder.{arrival_at}

-- the lesser of the jobs
abbrev pub lesser_of : Option ℕ → ℕ → Option ℕ
lesser_of None k = Some k
lesser_of (Some n) k = Some (min n k)

-- before place i stands a job of task o that is released after tick r
pub record IsPassed (run : Run) (order : List Arrival) (i o r : ℕ) : Type 0 where
  pub place : ℕ
  pub before : place < i
  pub task : (job_at run (arrival_at order place).job).task ≡ o
  pub later : r < (job_at run (arrival_at order place).job).release

-- the greatest release of a job of task o that stands before place i, else 0
pub record IsLatest (run : Run) (order : List Arrival) (i o latest : ℕ) : Type 0 where
  pub most : (p : ℕ) → p < i → (job_at run (arrival_at order p).job).task ≡ o → (job_at run (arrival_at order p).job).release ≤ latest
  pub reached : (r : ℕ) → r < latest → IsPassed run order i o r

-- the same for each task
abbrev pub AreLatest : Run → List Arrival → ℕ → List ℕ → Type 0
AreLatest run order i latest = (o : ℕ) → o < length latest → IsLatest run order i o (slice_index_or latest o 0)

-- of the jobs before place i the least that breaks the rule on releases
abbrev pub IsLeastBroken : SheetParts → Run → List Arrival → ℕ → Option ℕ → Type 0
IsLeastBroken sheet run order i None = (p : ℕ) → p < i → is_release_broken sheet run (arrival_at order p).job ≡ false
IsLeastBroken sheet run order i (Some k) =
    (k < length run.jobs) × (is_release_broken sheet run k ≡ true) × ((p : ℕ) → p < i →
    is_release_broken sheet run (arrival_at order p).job ≡ true → k ≤ (arrival_at order p).job)
