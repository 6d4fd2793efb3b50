-- The first crowded job of a run.
use Rattle.std.specs.Prelude.{◌≡◌, ℕ, ◌+◌, ◌-◌, ◌==◌, ◌<◌, ◌≤◌, ◌⊎◌, ◌&&◌, ◌||◌, List, [], Bool, true, cond, length, map, filter, take}
use Rattle.std.specs.Prelude.{nat_le, nat_lt, slice_index, slice_index_or, Option, Some, None}
use Rattle.std.specs.Global.{Vec}
use Rattle.std.specs.List.Sorted.{IsNonDecreasing}
use Rattle.lists.specs.Searches.{IsLeast}
use Rattle.curve.specs.CurveValue.{Curve}
use Rattle.curve.specs.Curves.{alpha_of}
use Rattle.task_sheet.specs.SheetParts.{SheetParts}
use Rattle.run_model.specs.declared.run.Run.{Run}
use Rattle.run_model.specs.Runs.{job_at}
use Rattle.schedule_laws.specs.Compliance.{arrivals_of}
use Rattle.schedule_laws.specs.Tests.{is_crowded}
use Rattle.windows.specs.Arrivals.{arrived_in}

-- job k arrives before job n, or at the same tick and has no greater number
abbrev pub IsNoLater : Run → ℕ → ℕ → Type 0
IsNoLater run k n = ((job_at run k).arrival < (job_at run n).arrival) ⊎ (((job_at run k).arrival ≡ (job_at run n).arrival) × (k ≤ n))

-- of the jobs with the property, the first by arrival, then by number; None exactly where there is none
abbrev pub IsFirstJob : (ℕ → Type 0) → Run → Option ℕ → Type 0
IsFirstJob P run None = (n : ℕ) → n < length run.jobs → P n → ⊥
IsFirstJob P run (Some k) = (k < length run.jobs) × P k × ((n : ℕ) → n < length run.jobs → P n → IsNoLater run k n)

-- the first crowded job
abbrev pub IsFirstCrowded : SheetParts → Run → Option ℕ → Type 0
IsFirstCrowded sheet run = IsFirstJob (λ k. is_crowded sheet run k ≡ true) run

-- job n is of task o, and crowded
pub record IsCrowdedOf (sheet : SheetParts) (run : Run) (o n : ℕ) : Type 0 where
  pub task : (job_at run n).task ≡ o
  pub crowded : is_crowded sheet run n ≡ true

-- whether job k arrives before job n, or at the same tick and has no greater number
abbrev pub comes_first : Run → ℕ → ℕ → Bool
comes_first run k n = nat_lt (job_at run k).arrival (job_at run n).arrival || (((job_at run k).arrival == (job_at run n).arrival) && nat_le k n)

-- the one of two jobs that comes first, where there is one
abbrev pub earlier_of : Run → Option ℕ → Option ℕ → Option ℕ
earlier_of run None b = b
earlier_of run (Some k) None = Some k
earlier_of run (Some k) (Some n) = cond (comes_first run k n) (Some k) (Some n)

-- job k is of task o and arrives at t
pub record ArrivesAt (run : Run) (o t k : ℕ) : Type 0 where
  pub task : (job_at run k).task ≡ o
  pub arrival : (job_at run k).arrival ≡ t

-- the arrivals of the jobs of task o, in the order of the jobs
abbrev pub task_arrivals : Run → ℕ → List ℕ
task_arrivals run o = map (λ j. j.arrival) (filter (λ j. j.task == o) run.jobs)

-- the same in ascending order: every window has as many of them as jobs of task o arrive in it
pub record AreArrivals (run : Run) (o : ℕ) (arrivals : List ℕ) : Type 0 where
  pub ascending : IsNonDecreasing arrivals
  pub same : (s u : ℕ) → arrived_in arrivals s u ≡ arrivals_of run o s u

-- in some window that ends with tick b more jobs arrive than the curve says
pub record IsCrowdedTick (curve : Curve) (arrivals : List ℕ) (b : ℕ) : Type 0 where
  pub start : ℕ
  pub within : start ≤ b
  pub many : alpha_of curve (b + 1 - start) < arrived_in arrivals start (b + 1)

-- in the window from arrival i to arrival j the arrivals i, .., j are more than the curve says
pub record IsCrowdedPair (curve : Curve) (arrivals : List ℕ) (j i : ℕ) : Type 0 where
  pub within : i ≤ j
  pub many : alpha_of curve (slice_index arrivals j + 1 - slice_index arrivals i) < j - i + 1

-- the first crowded tick, with which a job arrives; None exactly where no tick is crowded
abbrev pub IsFirstCrowdedTick : Curve → List ℕ → Option ℕ → Type 0
IsFirstCrowdedTick curve arrivals None = (b : ℕ) → IsCrowdedTick curve arrivals b → ⊥
IsFirstCrowdedTick curve arrivals (Some b) = IsLeast (IsCrowdedTick curve arrivals) b × ((i : ℕ) × (i < length arrivals) × (slice_index arrivals i ≡ b))

-- the arrivals of task o among the first n jobs, in the order of the jobs
abbrev pub first_arrivals : Run → ℕ → ℕ → List ℕ
first_arrivals run n o = map (λ j. j.arrival) (filter (λ j. j.task == o) (take n run.jobs))

-- the lists have nothing
abbrev pub AreEmpty : List (Vec ℕ) → Type 0
AreEmpty lists = (o : ℕ) (d : Vec ℕ) → o < length lists → (slice_index_or lists o d).items ≡ []

-- the lists have the arrivals of each task among the first n jobs
abbrev pub AreListed : Run → ℕ → List (Vec ℕ) → Type 0
AreListed run n lists = (o : ℕ) (d : Vec ℕ) → o < length lists → (slice_index_or lists o d).items ≡ first_arrivals run n o

-- the first n lists have the arrivals of each task in ascending order
abbrev pub AreSortedTo : Run → ℕ → List (Vec ℕ) → Type 0
AreSortedTo run n lists = (o : ℕ) (d : Vec ℕ) → o < n → o < length lists → AreArrivals run o (slice_index_or lists o d).items
