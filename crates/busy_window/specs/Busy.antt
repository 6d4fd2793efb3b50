-- up-sets of jobs, quiet ticks, busy stretches, and what the three laws say of them
use Rattle.std.specs.Prelude.{◌≡◌, ℕ, ◌+◌, ◌-◌, ◌<◌, ◌≤◌, ◌≢◌, ◌⊎◌, ◌==◌, ◌||◌}
use Rattle.std.specs.Prelude.{List, [], ◌∷◌, Bool, true, false, not, length}
use Rattle.task_sheet.specs.SheetParts.{SheetParts}
use Rattle.task_sheet.specs.Sheets.{IsValidSheet, task_at}
use Rattle.policy.specs.Keys.{key_le}
use Rattle.policy.specs.PolicyMeaning.{PolicyMeaning}
use Rattle.preemption.specs.CutMeaning.{CutMeaning}
use Rattle.preemption.specs.CutLaws.{Serves}
use Rattle.run_model.specs.declared.run.Run.{Run}
use Rattle.run_model.specs.declared.run.Tick.{Tick}
use Rattle.run_model.specs.declared.run.Tick.TheVariants.{Off, Idle, Runs}
use Rattle.run_model.specs.Runs.{job_at, tick_at, runs, ticks_in, IsDone, IsPending}
use Rattle.schedule_laws.specs.Compliance.{can_cut, IsCompliant}

-- A set of jobs is a test on their numbers.

-- the set is closed upwards in urgency: with a job of the set, each that is at least as urgent is in it
abbrev pub IsUpSet : PolicyMeaning → SheetParts → Run → (ℕ → Bool) → Type 0
IsUpSet p sheet run set =
    (k n : ℕ) → k < length run.jobs → n < length run.jobs →
    key_le (p.key sheet (job_at run k)) (p.key sheet (job_at run n)) ≡ true → set n ≡ true → set k ≡ true

-- each job of the set that was released before tick t is done at t
abbrev pub IsQuiet : Run → (ℕ → Bool) → ℕ → Type 0
IsQuiet run set t = (k : ℕ) → k < length run.jobs → set k ≡ true → (job_at run k).release < t → IsDone run k t

-- some job of the set is pending at tick t
pub record HasPending (run : Run) (set : ℕ → Bool) (t : ℕ) : Type 0 where
  pub job : ℕ
  pub inside : set job ≡ true
  pub pending : IsPending run job t

-- the stretch [s, u) lies in the run, begins at a quiet tick, and has a pending job of the set at each of its ticks
pub record IsBusy (run : Run) (set : ℕ → Bool) (s u : ℕ) : Type 0 where
  pub order : s ≤ u
  pub long : u ≤ length run.ticks
  pub quiet : IsQuiet run set s
  pub busy : (t : ℕ) → s ≤ t → t < u → HasPending run set t

-- the tick runs a job of the set
abbrev pub runs_in : (ℕ → Bool) → Tick → Bool
runs_in set (Runs k) = set k
runs_in set Idle = false
runs_in set Off = false

-- the tick runs a job outside the set
abbrev pub runs_out : (ℕ → Bool) → Tick → Bool
runs_out set (Runs k) = not (set k)
runs_out set Idle = false
runs_out set Off = false

-- the set of the jobs with these numbers
abbrev pub is_one_of : List ℕ → ℕ → Bool
is_one_of [] k = false
is_one_of (u ∷ us) k = (u == k) || is_one_of us k

-- what holds of each busy stretch of each up-set that is given by a list of numbers,
-- in every compliant run of a valid sheet whose tasks the kind of preemption serves
abbrev pub InBusy : PolicyMeaning → CutMeaning → (ℕ → ℕ) → (SheetParts → Run → (ℕ → Bool) → ℕ → ℕ → Type 0) → Type 0
InBusy p m sbf Holds =
    (sheet : SheetParts) → IsValidSheet sheet → Serves m sheet → (run : Run) → IsCompliant p m sbf sheet run →
    (us : List ℕ) → IsUpSet p sheet run (is_one_of us) →
    (s u : ℕ) → IsBusy run (is_one_of us) s u → Holds sheet run (is_one_of us) s u

-- at tick t job k is of the set, or is outside and cannot be cut
abbrev pub IsInsideOrUncut : CutMeaning → SheetParts → Run → (ℕ → Bool) → ℕ → ℕ → Type 0
IsInsideOrUncut m sheet run set t k = (set k ≡ true) ⊎ ((set k ≡ false) × (can_cut m sheet run k t ≡ false))

-- a tick of [s, u) that is not off runs a job of the set, or one outside that cannot be cut there
abbrev pub EachRunsInside : CutMeaning → SheetParts → Run → (ℕ → Bool) → ℕ → ℕ → Type 0
EachRunsInside m sheet run set s u =
    (t : ℕ) → s ≤ t → t < u → tick_at run t ≢ Off →
    (k : ℕ) × (tick_at run t ≡ Runs k) × IsInsideOrUncut m sheet run set t k

abbrev pub RunsInside : PolicyMeaning → CutMeaning → (ℕ → ℕ) → Type 0
RunsInside p m sbf = InBusy p m sbf (EachRunsInside m)

-- job k was released before [s, u), runs in fewer of its ticks than a segment is long,
-- and is the one job outside the set that runs in it
pub record IsOutsider (m : CutMeaning) (sheet : SheetParts) (run : Run) (set : ℕ → Bool) (s u k : ℕ) : Type 0 where
  pub early : (job_at run k).release < s
  pub short : ticks_in (runs k) run s (u - s) + 1 ≤ m.longest (task_at sheet (job_at run k).task)
  pub only : (t n : ℕ) → s ≤ t → t < u → tick_at run t ≡ Runs n → set n ≡ false → n ≡ k

-- a job outside the set that runs in [s, u) is the one such job
abbrev pub EachIsOutsider : CutMeaning → SheetParts → Run → (ℕ → Bool) → ℕ → ℕ → Type 0
EachIsOutsider m sheet run set s u =
    (t k : ℕ) → s ≤ t → t < u → tick_at run t ≡ Runs k → set k ≡ false → IsOutsider m sheet run set s u k

abbrev pub OneOutsider : PolicyMeaning → CutMeaning → (ℕ → ℕ) → Type 0
OneOutsider p m sbf = InBusy p m sbf (EachIsOutsider m)

-- the ticks of [s, u) that run jobs of the set are as many as the supply promises, less those that run jobs outside
abbrev pub HasEnoughInside : (ℕ → ℕ) → SheetParts → Run → (ℕ → Bool) → ℕ → ℕ → Type 0
HasEnoughInside sbf sheet run set s u =
    sbf (u - s) ≤ ticks_in (runs_in set) run s (u - s) + ticks_in (runs_out set) run s (u - s)

abbrev pub EnoughInside : PolicyMeaning → CutMeaning → (ℕ → ℕ) → Type 0
EnoughInside p m sbf = InBusy p m sbf (HasEnoughInside sbf)
