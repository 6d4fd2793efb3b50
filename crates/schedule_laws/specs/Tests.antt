-- The rules of a compliant run, each as a test of one job, one tick, or one job at a tick.
use Rattle.std.specs.Prelude.{◌≡◌, ℕ, ◌+◌, ◌-◌, ◌<◌, ◌≤◌, ◌↔◌, ◌==◌, ◌&&◌, Bool, true, false, not, length, nat_le, nat_lt}
use Rattle.lists.specs.Limits.{greatest_number}
use Rattle.lists.specs.Firsts.{all_below}
use Rattle.curve.specs.Curves.{alpha_of}
use Rattle.task_sheet.specs.SheetParts.{SheetParts}
use Rattle.task_sheet.specs.Sheets.{task_at, IsOf, IsValidSheet}
use Rattle.task_sheet.specs.declared.tasks.Job.{Job}
use Rattle.policy.specs.Keys.{key_le}
use Rattle.policy.specs.PolicyMeaning.{PolicyMeaning}
use Rattle.preemption.specs.CutMeaning.{CutMeaning}
use Rattle.run_model.specs.declared.run.Run.{Run}
use Rattle.run_model.specs.declared.run.Tick.{Tick}
use Rattle.run_model.specs.declared.run.Tick.TheVariants.{Off, Idle, Runs}
use Rattle.run_model.specs.Runs.{job_at, tick_at, runs, is_on, ticks_in, is_done, is_pending}
use Rattle.schedule_laws.specs.Compliance.{arrivals_of, can_cut, IsWithinCurves, IsCompliant}

-- every job is of a task of the sheet
abbrev pub AreOf : SheetParts → Run → Type 0
AreOf sheet run = (k : ℕ) → k < length run.jobs → IsOf sheet (job_at run k)

-- every job arrives by 10^9
abbrev pub AreEarly : Run → Type 0
AreEarly run = (k : ℕ) → k < length run.jobs → (job_at run k).arrival ≤ greatest_number

-- job k is of a task of the sheet, and fits it
abbrev pub does_fit : CutMeaning → SheetParts → Run → ℕ → Bool
does_fit m sheet run k = nat_lt (job_at run k).task (length sheet.tasks) && m.fits (task_at sheet (job_at run k).task) (job_at run k)

-- job n is of the task of job k, and arrives before it
abbrev pub is_before : Run → ℕ → ℕ → Bool
is_before run n k = ((job_at run n).task == (job_at run k).task) && nat_lt (job_at run n).arrival (job_at run k).arrival

-- the job is released at its arrival or later, by its task's jitter at most
abbrev pub is_timely : SheetParts → Job → Bool
is_timely sheet j = nat_le j.arrival j.release && nat_le j.release (j.arrival + (task_at sheet j.task).jitter)

-- job n arrives before job k, of the same task, and is released after it
abbrev pub is_overtaken : Run → ℕ → ℕ → Bool
is_overtaken run k n = is_before run n k && nat_lt (job_at run k).release (job_at run n).release

-- job k is not timely, or some job of its task that arrives before it is released after it
unfoldable pub is_release_broken : SheetParts → Run → ℕ → Bool
is_release_broken sheet run k = not (is_timely sheet (job_at run k) && all_below (λ n. not (is_overtaken run k n)) (length run.jobs))

-- job n arrives before job k, of the same task, and is not done at t
abbrev pub holds_back : Run → ℕ → ℕ → ℕ → Bool
holds_back run k t n = is_before run n k && not (is_done run n t)

-- tick t may run job k: it is pending, and no earlier job of its task is left undone
unfoldable pub may_run : Run → ℕ → ℕ → Bool
may_run run k t = is_pending run k t && all_below (λ n. not (holds_back run k t n)) (length run.jobs)

-- what the tick runs, if anything, may run at t
abbrev pub may_be_at : Run → ℕ → Tick → Bool
may_be_at run t Off = true
may_be_at run t Idle = true
may_be_at run t (Runs k) = may_run run k t

abbrev pub is_valid_at : Run → ℕ → Bool
is_valid_at run t = may_be_at run t (tick_at run t)

-- in the window from t to the arrival of job k at most as many jobs of its task arrive as its curve says
abbrev pub is_within_curve : SheetParts → Run → ℕ → ℕ → Bool
is_within_curve sheet run k t =
    nat_le (arrivals_of run (job_at run k).task t ((job_at run k).arrival + 1))
    (alpha_of (task_at sheet (job_at run k).task).curve ((job_at run k).arrival + 1 - t))

-- some window that ends with the arrival of job k has more
unfoldable pub is_crowded : SheetParts → Run → ℕ → Bool
is_crowded sheet run k = not (all_below (is_within_curve sheet run k) ((job_at run k).arrival + 1))

-- the window that begins with the arrival of job n, of the same task and no later, has more
abbrev pub is_crowded_since : SheetParts → Run → ℕ → ℕ → Bool
is_crowded_since sheet run k n =
    ((job_at run n).task == (job_at run k).task) &&
    (nat_le (job_at run n).arrival (job_at run k).arrival && not (is_within_curve sheet run k (job_at run n).arrival))

-- the window [t, u) has as many supplied ticks as promised
abbrev pub is_supplied : (ℕ → ℕ) → Run → ℕ → ℕ → Bool
is_supplied sbf run u t = nat_le (sbf (u - t)) (ticks_in is_on run t (u - t))

-- some window that ends before tick u has fewer
unfoldable pub is_short : (ℕ → ℕ) → Run → ℕ → Bool
is_short sbf run u = not (all_below (is_supplied sbf run u) (u + 1))

abbrev pub is_idle : Tick → Bool
is_idle Off = false
is_idle Idle = true
is_idle (Runs k) = false

-- job k is pending at tick t, which is idle
unfoldable pub is_idle_broken : Run → ℕ → ℕ → Bool
is_idle_broken run t k = is_idle (tick_at run t) && is_pending run k t

-- job k is inside a segment at tick t, which is supplied and does not run it
unfoldable pub is_segment_broken : CutMeaning → SheetParts → Run → ℕ → ℕ → Bool
is_segment_broken m sheet run t k = is_on (tick_at run t) && (not (runs k (tick_at run t)) && not (can_cut m sheet run k t))

-- job n is pending at t and more urgent than the job that the tick runs and that can be cut
abbrev pub is_more_urgent : PolicyMeaning → CutMeaning → SheetParts → Run → ℕ → ℕ → Tick → Bool
is_more_urgent p m sheet run t n Off = false
is_more_urgent p m sheet run t n Idle = false
is_more_urgent p m sheet run t n (Runs k) =
    can_cut m sheet run k t && (is_pending run n t && not (key_le (p.key sheet (job_at run k)) (p.key sheet (job_at run n))))

unfoldable pub is_priority_broken : PolicyMeaning → CutMeaning → SheetParts → Run → ℕ → ℕ → Bool
is_priority_broken p m sheet run t n = is_more_urgent p m sheet run t n (tick_at run t)

-- no job is crowded
abbrev pub AreUncrowded : SheetParts → Run → Type 0
AreUncrowded sheet run = (k : ℕ) → k < length run.jobs → is_crowded sheet run k ≡ false

-- the arrivals are within the curves exactly where no job is crowded
abbrev pub DecideCrowds : Type 0
DecideCrowds = (sheet : SheetParts) → IsValidSheet sheet → (run : Run) → AreOf sheet run → IsWithinCurves sheet run ↔ AreUncrowded sheet run

-- no test finds a rule broken, of any job, any tick or any window
pub record PassesTests (p : PolicyMeaning) (m : CutMeaning) (sbf : ℕ → ℕ) (sheet : SheetParts) (run : Run) : Type 0 where
  pub fit : (k : ℕ) → k < length run.jobs → does_fit m sheet run k ≡ true
  pub released : (k : ℕ) → k < length run.jobs → is_release_broken sheet run k ≡ false
  pub valid : (t : ℕ) → t < length run.ticks → is_valid_at run t ≡ true
  pub uncrowded : AreUncrowded sheet run
  pub supplied : (u : ℕ) → u ≤ length run.ticks → is_short sbf run u ≡ false
  pub conserving : (t k : ℕ) → t < length run.ticks → k < length run.jobs → is_idle_broken run t k ≡ false
  pub segments : (t k : ℕ) → t < length run.ticks → k < length run.jobs → is_segment_broken m sheet run t k ≡ false
  pub policy : (t n : ℕ) → t < length run.ticks → n < length run.jobs → is_priority_broken p m sheet run t n ≡ false

-- a run complies exactly where it passes the tests
abbrev pub DecideCompliance : PolicyMeaning → CutMeaning → (ℕ → ℕ) → Type 0
DecideCompliance p m sbf = (sheet : SheetParts) → IsValidSheet sheet → (run : Run) → IsCompliant p m sbf sheet run ↔ PassesTests p m sbf sheet run
