-- The jobs in the order of their arrivals and releases.
use Rattle.std.specs.Prelude.{◌≡◌, ◌⊎◌, ℕ, ◌<◌, ◌≤◌, List, length, slice_index_or}
use Rattle.std.specs.declared.cmp.Ordering.{Ordering}
use Rattle.std.specs.Ordering.{nat_cmp, ordering_then}
use Rattle.run_model.specs.declared.run.Run.{Run}
use Rattle.run_model.specs.Runs.{job_at}
use Rattle.audit.specs.declared.arrivals.Arrival.{Arrival}

-- what stands past the last arrival
abbrev pub no_arrival : Arrival
no_arrival = record { tick = 0; release = 0; job = 0 }

abbrev pub arrival_at : List Arrival → ℕ → Arrival
arrival_at order i = slice_index_or order i no_arrival

abbrev pub arrival_of : Run → ℕ → Arrival
arrival_of run k = record { tick = (job_at run k).arrival; release = (job_at run k).release; job = k }

-- the order of arrivals: by the arrival, the release and the number
abbrev pub arrival_cmp : Arrival → Arrival → Ordering
arrival_cmp a b = ordering_then (nat_cmp a.tick b.tick) (ordering_then (nat_cmp a.release b.release) (nat_cmp a.job b.job))

-- the arrivals of the first n jobs, by their numbers
pub record AreFirstArrivals (run : Run) (n : ℕ) (arrivals : List Arrival) : Type 0 where
  pub count : length arrivals ≡ n
  pub each : (k : ℕ) → k < n → arrival_at arrivals k ≡ arrival_of run k

-- the arrival of a job of the run
pub record IsArrival (run : Run) (a : Arrival) : Type 0 where
  pub listed : a.job < length run.jobs
  pub tick : a.tick ≡ (job_at run a.job).arrival
  pub release : a.release ≡ (job_at run a.job).release

-- where job k stands
pub record HasPlace (order : List Arrival) (k : ℕ) : Type 0 where
  pub place : ℕ
  pub within : place < length order
  pub is : (arrival_at order place).job ≡ k

-- one arrives before the other, or with it and is released no later
abbrev pub IsNoLater : ℕ → ℕ → ℕ → ℕ → Type 0
IsNoLater arrival release other_arrival other_release = (arrival < other_arrival) ⊎ ((arrival ≡ other_arrival) × (release ≤ other_release))

-- the jobs in the order of their arrivals, and where these are equal of their releases
pub record IsOrder (run : Run) (order : List Arrival) : Type 0 where
  pub listed : (i : ℕ) → i < length order → IsArrival run (arrival_at order i)
  pub complete : (k : ℕ) → k < length run.jobs → HasPlace order k
  pub ascending : (i j : ℕ) → i ≤ j → j < length order →
      IsNoLater (arrival_at order i).tick (arrival_at order i).release (arrival_at order j).tick (arrival_at order j).release

-- the jobs in the order of their releases
pub record IsReleaseOrder (run : Run) (order : List Arrival) : Type 0 where
  pub listed : (i : ℕ) → i < length order → IsArrival run (arrival_at order i)
  pub complete : (k : ℕ) → k < length run.jobs → HasPlace order k
  pub ascending : (i j : ℕ) → i ≤ j → j < length order → (arrival_at order i).release ≤ (arrival_at order j).release
