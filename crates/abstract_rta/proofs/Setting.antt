-- What all steps of docs/ANALYSIS.md up to "Completion" share:
-- a compliant run of a valid sheet, and the laws that the bound rests on.
use Rattle.std.proofs.Common.{◌≡◌, ℕ, ◌*◌, ◌<◌, Bool, true, cond, length}
use Rattle.lists.specs.Sums.{sum_below}
use Rattle.curve.specs.Curves.{alpha_of}
use Rattle.task_sheet.specs.SheetParts.{SheetParts}
use Rattle.task_sheet.specs.Sheets.{IsValidSheet, task_at, IsOf, IsTimely}
use Rattle.policy.specs.PolicyMeaning.{PolicyMeaning}
use Rattle.policy.specs.PolicyLaws.{IsLawfulPolicy}
use Rattle.preemption.specs.CutMeaning.{CutMeaning}
use Rattle.preemption.specs.CutLaws.{IsLawfulCut, Serves}
use Rattle.run_model.specs.declared.run.Run.{Run}
use Rattle.run_model.specs.declared.run.Tick.TheVariants.{Runs}
use Rattle.run_model.specs.Runs.{job_at, tick_at, service_of, IsDone, IsPending}
use Rattle.schedule_laws.specs.Compliance.{IsCompliant}
use Rattle.schedule_laws.specs.Prefixes.{ServedWithinCost}
use Rattle.busy_window.specs.Busy.{OneOutsider, EnoughInside}

-- the laws of the sheet's parts, of prefixes of runs and of busy stretches
pub record BoundLaws (p : PolicyMeaning) (m : CutMeaning) (sbf : ℕ → ℕ) (sheet : SheetParts) : Type 0 where
  pub valid : IsValidSheet sheet
  pub serves : Serves m sheet
  pub policy : IsLawfulPolicy p sheet
  pub cut : (o : ℕ) → o < length sheet.tasks → IsLawfulCut m (task_at sheet o)
  pub within_cost : ServedWithinCost m
  pub outsider : OneOutsider p m sbf
  pub enough : EnoughInside p m sbf

pub record Setting : Type 0 where
  pub p : PolicyMeaning
  pub m : CutMeaning
  pub sbf : ℕ → ℕ
  pub sheet : SheetParts
  pub laws : BoundLaws p m sbf sheet
  pub run : Run
  pub ok : IsCompliant p m sbf sheet run

abbrev pub setting_of : (p : PolicyMeaning) (m : CutMeaning) (sbf : ℕ → ℕ) (sheet : SheetParts) →
    BoundLaws p m sbf sheet → (run : Run) → IsCompliant p m sbf sheet run → Setting
setting_of p m sbf sheet laws run ok = record { p = p; m = m; sbf = sbf; sheet = sheet; laws = laws; run = run; ok = ok }

module _ (g : Setting) where
  pub ran : (t k : ℕ) → t < length g.run.ticks → tick_at g.run t ≡ Runs k → IsPending g.run k t
  ran t k h r = (g.ok.valid.ticks t k h r).pending

  pub in_order : (t k n : ℕ) → t < length g.run.ticks → tick_at g.run t ≡ Runs k → n < length g.run.jobs →
      (job_at g.run n).task ≡ (job_at g.run k).task → (job_at g.run n).arrival < (job_at g.run k).arrival → IsDone g.run n t
  in_order t k n h r = (g.ok.valid.ticks t k h r).in_order n

  pub of_sheet : (k : ℕ) → k < length g.run.jobs → IsOf g.sheet (job_at g.run k)
  of_sheet k h = (g.ok.valid.jobs k h).task

  pub timely : (k : ℕ) → k < length g.run.jobs → IsTimely g.sheet (job_at g.run k)
  timely k h = (g.ok.valid.releases k h).timely

  pub fit_of : (k : ℕ) → k < length g.run.jobs → g.m.fits (task_at g.sheet (job_at g.run k).task) (job_at g.run k) ≡ true
  fit_of k h = (g.ok.valid.jobs k h).fit

-- the jitter of task o
abbrev pub jitter_of : Setting → ℕ → ℕ
jitter_of g o = (task_at g.sheet o).jitter

-- what the jobs of task o ask for that arrive within w ticks, at most
abbrev pub demand_in : Setting → ℕ → ℕ → ℕ
demand_in g o w = (task_at g.sheet o).cost * alpha_of (task_at g.sheet o).curve w

-- the longest segment of the task of job k
abbrev pub segment_of : Setting → ℕ → ℕ
segment_of g k = g.m.longest (task_at g.sheet (job_at g.run k).task)

-- what the chosen jobs have got before t
unfoldable pub served : Setting → (ℕ → Bool) → ℕ → ℕ
served g chosen t = sum_below (λ k. cond (chosen k) (service_of g.run k t) 0) (length g.run.jobs)
