-- What the code reads of a run.
use Rattle.std.proofs.Common.{◌≡◌, ℕ, ◌<◌, ◌≤◌, Bool, List, length, get_or, ◌∙◌, ap, subst, inl, inr}
use Rattle.std.proofs.lemmas.List.{get_or_read, get_or_past}
use Rattle.std.proofs.lemmas.Bool.{cases_lt}
use Rattle.std.proofs.lemmas.List.Elements.{All-get_or}
use Rattle.task_sheet.specs.SheetParts.{SheetParts}
use Rattle.task_sheet.specs.Sheets.{task_at}
use Rattle.task_sheet.specs.declared.tasks.Job.{Job}
use Rattle.preemption.specs.CutMeaning.{CutMeaning}
use Rattle.run_model.specs.declared.run.Run.{Run}
use Rattle.run_model.specs.declared.run.Tick.{Tick}
use Rattle.run_model.specs.declared.run.Tick.TheVariants.{Off, Runs}
use Rattle.run_model.specs.Runs.{job_at, tick_at, service_of, no_job}
use Rattle.schedule_laws.specs.Compliance.{can_cut}
use Rattle.run_model.proofs.ServiceFacts.{not_off}
use Rattle.run_text.specs.Text.{IsWithinLimits, IsJob, IsTickOf}
use Rattle.audit.specs.Premises.{IsSmall}

-- a job as it was read
pub job_read : (run : Run) (jobs : List Job) (k : ℕ) (j : Job) → k < length run.jobs → jobs ≡ run.jobs →
    j ≡ get_or jobs k j → j ≡ job_at run k
job_read run jobs k j b same is = get_or_read run.jobs k j b (is ∙ ap (λ (v : List Job). get_or v k j) same) no_job

named_tick : (n : ℕ) (x : Tick) (k : ℕ) → IsTickOf n x → x ≡ Runs k → k < n
named_tick n x k h e = subst (IsTickOf n) e h

past_ticks : (run : Run) (t : ℕ) → length run.ticks ≤ t → tick_at run t ≡ Off
past_ticks run t b = get_or_past run.ticks t Off b

-- a run within the limits of its text
pub small_from : (run : Run) → IsWithinLimits run → IsSmall run
small_from run h = record {
  few_jobs = h.few_jobs;
  few_ticks = h.few_ticks;
  early = λ k b. (All-get_or IsJob run.jobs k no_job b h.jobs).arrival;
  named = λ t k is. elim (cases_lt t (length run.ticks)) [
    | inl b ↦ named_tick (length run.jobs) (tick_at run t) k (All-get_or (IsTickOf (length run.jobs)) run.ticks t Off b h.ticks) is
    | inr past ↦ absurd (not_off k (tick_at run t) is (past_ticks run t past))
  ];
}

-- whether a job can be cut at t, by the service that it has had
pub cut_read : (m : CutMeaning) (sheet : SheetParts) (run : Run) (t k s : ℕ) (r : Bool) →
    r ≡ m.cuttable (task_at sheet (job_at run k).task) (job_at run k) s → s ≡ service_of run k t →
    can_cut m sheet run k t ≡ r
cut_read m sheet run t k s r given at = cc
