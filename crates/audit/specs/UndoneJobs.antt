-- The first job of each task that is not done.
use Rattle.std.specs.Prelude.{◌≡◌, ◌≢◌, ℕ, ◌<◌, ◌≤◌, List, length, slice_index_or, Option, Some, None}
use Rattle.run_model.specs.declared.run.Run.{Run}
use Rattle.run_model.specs.Runs.{job_at}
use Rattle.audit.specs.declared.arrivals.Arrival.{Arrival}
use Rattle.audit.specs.declared.undone.UndoneJobs.{UndoneJobs}
use Rattle.audit.specs.ArrivalOrder.{arrival_at, IsNoLater, IsOrder}
use Rattle.audit.specs.ServiceCounts.{IsServed}

abbrev pub served_at : List ℕ → ℕ → ℕ
served_at served k = slice_index_or served k 0

-- job k is of task o, and not done with this service
pub record IsLeft (run : Run) (served : List ℕ) (o k : ℕ) : Type 0 where
  pub listed : k < length run.jobs
  pub task : (job_at run k).task ≡ o
  pub not_done : served_at served k < (job_at run k).cost

-- the job of task o that is left and comes first by its arrival, then by its release; None exactly where none is left
abbrev pub IsFront : Run → List ℕ → ℕ → Option ℕ → Type 0
IsFront run served o None = (n : ℕ) → IsLeft run served o n → ⊥
IsFront run served o (Some f) =
    IsLeft run served o f × ((n : ℕ) → IsLeft run served o n →
    IsNoLater (job_at run f).arrival (job_at run f).release (job_at run n).arrival (job_at run n).release)

-- no job of task o is left before this place
pub record AreDoneBefore (run : Run) (served : List ℕ) (order : List Arrival) (o place : ℕ) : Type 0 where
  pub within : place ≤ length order
  pub done : (i : ℕ) → i < place → IsLeft run served o (arrival_at order i).job → ⊥

-- the same for each task
abbrev pub ArePlaces : Run → List ℕ → List Arrival → List ℕ → Type 0
ArePlaces run served order places = (o : ℕ) → o < length places → AreDoneBefore run served order o (slice_index_or places o 0)

-- every job is of one of the first tasks
abbrev pub AreBelow : Run → ℕ → Type 0
AreBelow run tasks = (k : ℕ) → k < length run.jobs → (job_at run k).task < tasks

-- behind place i and before the next one no job of its task stands
pub record IsNextPlace (run : Run) (order : List Arrival) (i next : ℕ) : Type 0 where
  pub later : i < next
  pub within : next ≤ length order
  pub between : (j : ℕ) → i < j → j < next → (job_at run (arrival_at order j).job).task ≢ (job_at run (arrival_at order i).job).task

-- for each place the next one of the same task
pub record AreNextPlaces (run : Run) (order : List Arrival) (nexts : List ℕ) : Type 0 where
  pub count : length nexts ≡ length order
  pub each : (i : ℕ) → i < length order → IsNextPlace run order i (slice_index_or nexts i 0)

-- from place i on the first one of task o
pub record IsFirstPlaceOf (run : Run) (order : List Arrival) (i o first : ℕ) : Type 0 where
  pub from : i ≤ first
  pub within : first ≤ length order
  pub between : (j : ℕ) → i ≤ j → j < first → (job_at run (arrival_at order j).job).task ≢ o

-- the places from i on know the next ones, and each task the first of them
pub record AreLinked (run : Run) (order : List Arrival) (i : ℕ) (firsts nexts : List ℕ) : Type 0 where
  pub count : length nexts ≡ length order
  pub tasks : AreBelow run (length firsts)
  pub heads : (o : ℕ) → o < length firsts → IsFirstPlaceOf run order i o (slice_index_or firsts o 0)
  pub links : (p : ℕ) → i ≤ p → p < length order → IsNextPlace run order p (slice_index_or nexts p 0)

-- for each task a place, by the service of the jobs
pub record IsReadyAt (run : Run) (served : List ℕ) (order : List Arrival) (nexts places : List ℕ) : Type 0 where
  pub count : length served ≡ length run.jobs
  pub ordered : IsOrder run order
  pub linked : AreNextPlaces run order nexts
  pub tasks : AreBelow run (length places)
  pub past : ArePlaces run served order places

abbrev pub IsReady : Run → UndoneJobs → Type 0
IsReady run p = IsReadyAt run p.served.items p.order.items p.nexts.items p.places.items

-- how far the run has come at t
pub record AreUndoneAt (run : Run) (t : ℕ) (served : List ℕ) (order : List Arrival) (nexts places : List ℕ) : Type 0 where
  pub counted : IsServed run t served
  pub ready : IsReadyAt run served order nexts places

abbrev pub AreUndone : Run → ℕ → UndoneJobs → Type 0
AreUndone run t p = AreUndoneAt run t p.served.items p.order.items p.nexts.items p.places.items
