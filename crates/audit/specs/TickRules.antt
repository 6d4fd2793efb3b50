-- What the searches ask at a tick.
use Rattle.std.specs.Prelude.{◌≡◌, ◌≢◌, ℕ, ◌<◌, ◌&&◌, Bool, true, not, length, Option, Some, None}
use Rattle.task_sheet.specs.SheetParts.{SheetParts}
use Rattle.policy.specs.declared.keys.Key.{Key}
use Rattle.policy.specs.Keys.{key_le}
use Rattle.policy.specs.PolicyMeaning.{PolicyMeaning}
use Rattle.run_model.specs.declared.run.Run.{Run}
use Rattle.run_model.specs.declared.run.Tick.{Tick}
use Rattle.run_model.specs.declared.run.Tick.TheVariants.{Off, Idle, Runs}
use Rattle.run_model.specs.Runs.{job_at, is_pending}
use Rattle.lists.specs.Searches.{IsFirstBelow}
use Rattle.audit.specs.declared.verdict.Place.{Place}

-- the job, if there is one, is one of the run
abbrev pub IsListed : Run → Option ℕ → Type 0
IsListed run None = Unit {0}
IsListed run (Some k) = k < length run.jobs

-- the job, if there is one, arrived before this tick
abbrev pub IsEarlier : Run → ℕ → Option ℕ → Type 0
IsEarlier run t None = ⊥
IsEarlier run t (Some k) = (job_at run k).arrival < t

-- the tick is supplied and does not run the job, if there is one
abbrev pub Leaves : Tick → Option ℕ → Type 0
Leaves Off job = ⊥
Leaves Idle None = ⊥
Leaves Idle (Some j) = Unit {0}
Leaves (Runs k) None = ⊥
Leaves (Runs k) (Some j) = k ≢ j

-- the job that ran last, after one tick more
abbrev pub last_after : Tick → Option ℕ → Option ℕ
last_after Off last = last
last_after Idle last = last
last_after (Runs k) last = Some k

-- of the numbers below a count at most this one, if any, fails the test
abbrev pub OnlyMayFail : (ℕ → Bool) → ℕ → Option ℕ → Type 0
OnlyMayFail test count None = (k : ℕ) → k < count → test k ≡ true
OnlyMayFail test count (Some n) = (n < count) × ((k : ℕ) → k < count → k ≢ n → test k ≡ true)

-- some job passes the test at tick t
pub record IsTick (test : ℕ → ℕ → Bool) (run : Run) (t : ℕ) : Type 0 where
  pub job : ℕ
  pub listed : job < length run.jobs
  pub passes : test t job ≡ true

-- the place of a job at a tick
abbrev pub place_at : ℕ → ℕ → Place
place_at t k = record { tick = t; job = k }

-- the first place, by tick and then by job, that passes a test; None exactly where none does
abbrev pub IsFirstPlace : (ℕ → ℕ → Bool) → Run → Option Place → Type 0
IsFirstPlace test run None = (t : ℕ) → t < length run.ticks → IsTick test run t → ⊥
IsFirstPlace test run (Some w) =
    (w.tick < length run.ticks) × IsFirstBelow (λ k. test w.tick k ≡ true) (length run.jobs) (Some w.job) × ((s : ℕ) → s < w.tick → IsTick test run s → ⊥)

-- job k is pending at t and more urgent than the key
abbrev pub is_urgent_by : PolicyMeaning → SheetParts → Run → Key → ℕ → ℕ → Bool
is_urgent_by p sheet run key t k = is_pending run k t && not (key_le key (p.key sheet (job_at run k)))
