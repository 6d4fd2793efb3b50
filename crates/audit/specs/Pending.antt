-- Which jobs have come and are not done: what the searches keep in a queue.
use Rattle.std.specs.Prelude.{◌≡◌, ℕ, zero, suc, ◌<◌, ◌≤◌, ◌==◌, ◌&&◌, ◌||◌, not, Bool, true, false, List, length, Option, Some, None}
use Rattle.std.specs.BTreeMap.{BTreeMap}
use Rattle.task_sheet.specs.SheetParts.{SheetParts}
use Rattle.policy.specs.PolicyMeaning.{PolicyMeaning}
use Rattle.run_model.specs.declared.run.Run.{Run}
use Rattle.run_model.specs.Runs.{job_at, is_done, is_pending}
use Rattle.urgency.specs.declared.rank.Rank.{Rank}
use Rattle.urgency.specs.Queues.{IsQueue}
use Rattle.audit.specs.declared.arrivals.Arrival.{Arrival}
use Rattle.audit.specs.declared.waiting.Waiting.{Waiting}
use Rattle.audit.specs.ArrivalOrder.{arrival_at, IsReleaseOrder}
use Rattle.audit.specs.ServiceCounts.{IsServed}
use Rattle.audit.specs.UndoneJobs.{served_at}

-- job k stands before place i
abbrev pub is_among : List Arrival → ℕ → ℕ → Bool
is_among coming zero k = false
is_among coming (suc i) k = (k == (arrival_at coming i).job) || is_among coming i k

-- and is not done at t
unfoldable pub is_waiting : Run → List Arrival → ℕ → ℕ → ℕ → Bool
is_waiting run coming i t k = is_among coming i k && not (is_done run k t)

-- the jobs before a place have come by tick t, and those that are not done are in the queue
pub record HasCome (p : PolicyMeaning) (sheet : SheetParts) (run : Run) (t : ℕ) (served : List ℕ) (coming : List Arrival)
    (next : ℕ) (queue : BTreeMap Rank ℕ) : Type 0 where
  pub counted : IsServed run t served
  pub ordered : IsReleaseOrder run coming
  pub within : next ≤ length coming
  pub past : (i : ℕ) → i < next → (arrival_at coming i).release ≤ t
  pub waiting : IsQueue p sheet run.jobs (is_waiting run coming next t) queue

-- and the others have not
pub record IsReady (p : PolicyMeaning) (sheet : SheetParts) (run : Run) (t : ℕ) (served : List ℕ) (coming : List Arrival)
    (next : ℕ) (queue : BTreeMap Rank ℕ) : Type 0 where
  pub come : HasCome p sheet run t served coming next queue
  pub ahead : (i : ℕ) → next ≤ i → i < length coming → t < (arrival_at coming i).release

-- the jobs before a place are done with this service
pub record AreDoneTo (run : Run) (served : List ℕ) (coming : List Arrival) (place : ℕ) : Type 0 where
  pub within : place ≤ length coming
  pub done : (i : ℕ) → i < place → (job_at run (arrival_at coming i).job).cost ≤ served_at served (arrival_at coming i).job

-- the service before t, the jobs in the order of their releases, and a place before which they are done
pub record AreWaiting (run : Run) (t : ℕ) (served : List ℕ) (coming : List Arrival) (place : ℕ) : Type 0 where
  pub counted : IsServed run t served
  pub ordered : IsReleaseOrder run coming
  pub done : AreDoneTo run served coming place

abbrev pub IsWaiting : Run → ℕ → Waiting → Type 0
IsWaiting run t w = AreWaiting run t w.served.items w.coming.items w.place

-- a job that is pending at t; None exactly where none is
abbrev pub IsSomePending : Run → ℕ → Option ℕ → Type 0
IsSomePending run t None = (k : ℕ) → k < length run.jobs → is_pending run k t ≡ false
IsSomePending run t (Some f) = (f < length run.jobs) × (is_pending run f t ≡ true)
