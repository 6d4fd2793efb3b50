-- The first rule that a run breaks, at its first place.
use Rattle.std.specs.Prelude.{ℕ, ◌+◌, ◌-◌, ◌==◌, ◌&&◌, Bool, not, length, Option, Some, None}
use Rattle.lists.specs.Sums.{max_below}
use Rattle.lists.specs.Firsts.{first_of, must, first_below}
use Rattle.task_sheet.specs.SheetParts.{SheetParts}
use Rattle.policy.specs.PolicyMeaning.{PolicyMeaning}
use Rattle.preemption.specs.CutMeaning.{CutMeaning}
use Rattle.run_model.specs.declared.run.Run.{Run}
use Rattle.run_model.specs.declared.run.Tick.{Tick}
use Rattle.run_model.specs.declared.run.Tick.TheVariants.{Off, Idle, Runs}
use Rattle.run_model.specs.Runs.{job_at, tick_at}
use Rattle.audit.specs.declared.verdict.Fault.{Fault}
use Rattle.audit.specs.declared.verdict.Rule.{Rule}
use Rattle.audit.specs.declared.verdict.Rule.TheVariants as rule
use Rattle.schedule_laws.specs.Tests.{does_fit, is_release_broken, may_run, is_crowded, is_short, is_idle_broken, is_segment_broken, is_priority_broken}

-- a rule that job k breaks, at tick t
abbrev pub fault_at : Rule → ℕ → ℕ → Fault
fault_at of k t = record { rule = of; job = Some k; tick = Some t }

-- job k does not fit
abbrev pub unfit : ℕ → Fault
unfit k = record { rule = rule.Fit; job = Some k; tick = None }

-- the first job that does not fit
unfoldable pub unfit_in : CutMeaning → SheetParts → Run → Option Fault
unfit_in m sheet run = first_below (λ k. must (does_fit m sheet run k) (unfit k)) (length run.jobs)

-- job k is not released as its task allows
abbrev pub unreleased : ℕ → Fault
unreleased k = record { rule = rule.Release; job = Some k; tick = None }

-- the first job that is not
unfoldable pub unreleased_in : SheetParts → Run → Option Fault
unreleased_in sheet run = first_below (λ k. must (not (is_release_broken sheet run k)) (unreleased k)) (length run.jobs)

-- the tick is at fault where it runs a job that may not run at t
abbrev pub invalid_at : Run → ℕ → Tick → Option Fault
invalid_at run t Off = None
invalid_at run t Idle = None
invalid_at run t (Runs k) = must (may_run run k t) (fault_at rule.Valid k t)

-- the first tick that is not valid
unfoldable pub invalid_in : Run → Option Fault
invalid_in run = first_below (λ t. invalid_at run t (tick_at run t)) (length run.ticks)

-- the first place, by tick and then by job, that passes a test
abbrev pub found_in : Rule → (ℕ → ℕ → Bool) → ℕ → ℕ → Option Fault
found_in of test ticks jobs = first_below (λ t. first_below (λ k. must (not (test t k)) (fault_at of k t)) jobs) ticks

abbrev pub last_arrival : Run → ℕ
last_arrival run = max_below (λ k. (job_at run k).arrival) (length run.jobs)

-- the first crowded job, by arrival and then by number
unfoldable pub crowded_in : SheetParts → Run → Option Fault
crowded_in sheet run = found_in rule.Curve (λ t k. ((job_at run k).arrival == t) && is_crowded sheet run k) (last_arrival run + 1) (length run.jobs)

-- a window that ends with tick t has too few supplied ticks
abbrev pub shortage : ℕ → Fault
shortage t = record { rule = rule.Supply; job = None; tick = Some t }

-- the first end of a window with too few supplied ticks; its last tick is named
unfoldable pub short_in : (ℕ → ℕ) → Run → Option Fault
short_in sbf run = first_below (λ u. must (not (is_short sbf run u)) (shortage (u - 1))) (length run.ticks + 1)

unfoldable pub idle_in : Run → Option Fault
idle_in run = found_in rule.Idle (is_idle_broken run) (length run.ticks) (length run.jobs)

unfoldable pub segment_in : CutMeaning → SheetParts → Run → Option Fault
segment_in m sheet run = found_in rule.Segment (is_segment_broken m sheet run) (length run.ticks) (length run.jobs)

unfoldable pub priority_in : PolicyMeaning → CutMeaning → SheetParts → Run → Option Fault
priority_in p m sheet run = found_in rule.Priority (is_priority_broken p m sheet run) (length run.ticks) (length run.jobs)

-- the first rule that the run breaks, at its first place
abbrev pub first_broken : PolicyMeaning → CutMeaning → (ℕ → ℕ) → SheetParts → Run → Option Fault
first_broken p m sbf sheet run =
    first_of (unfit_in m sheet run)
    (first_of (unreleased_in sheet run)
    (first_of (invalid_in run) (first_of (crowded_in sheet run)
    (first_of (short_in sbf run) (first_of (idle_in run) (first_of (segment_in m sheet run) (priority_in p m sheet run)))))))
