-- What a sound stage says of its jobs.
use Rattle.std.proofs.Common.{◌≡◌, ◌≢◌, ℕ, suc, ◌<◌, ◌≤◌, Bool, true, false, cond, length, Some, sym, ◌∙◌, ap, inl, inr, arith}
use Rattle.std.proofs.lemmas.Bool.{cases_Bool, cases_eq, false_from_ne_true}
use Rattle.task_sheet.specs.Sheets.{task_at}
use Rattle.task_sheet.specs.declared.tasks.Job.{Job}
use Rattle.preemption.specs.Cuts.{fits}
use Rattle.run_model.specs.declared.run.Run.{Run}
use Rattle.run_model.specs.declared.run.Tick.{Tick}
use Rattle.run_model.specs.declared.run.Tick.TheVariants.{Runs}
use Rattle.run_model.specs.Runs.{job_at, tick_at, runs, service_of}
use Rattle.run_model.proofs.ServiceFacts.{runs_tells}
use Rattle.schedule_laws.specs.Compliance.{can_cut}
use Rattle.schedule_laws.proofs.PrefixFacts.{within_cost}
use Rattle.simulated_run.specs.SimulatedRun.{World, with_tick, inside_segment}
use Rattle.simulated_run.proofs.RunFacts.{service_unlisted, service_new}
use Rattle.simulated_run.proofs.Soundness.{IsLawful, IsSound}
use Rattle.simulated_run.proofs.Stages.{IsBetween}
use Rattle.simulated_run.proofs.ChoiceFacts.{inside_some}

-- the ranges of a job that has arrived by t
pub record IsJobBy (w : World) (t : ℕ) (j : Job) : Type 0 where
  pub task : j.task < length w.sheet.tasks
  pub arrival : j.arrival ≤ t
  pub cost_low : 1 ≤ j.cost
  pub cost_high : j.cost ≤ (task_at w.sheet j.task).cost
  pub fit : w.cuts.fits (task_at w.sheet j.task) j ≡ true
  pub own_fit : fits (task_at w.sheet j.task) j ≡ true

module _ (w : World) (laws : IsLawful w) (t : ℕ) (run : Run) (sound : IsSound w t run) where
  pub job_by : (k : ℕ) → k < length run.jobs → IsJobBy w t (job_at run k)
  job_by k b =
      let fit = sound.complies.valid.jobs k b in
      let law = laws.cuts (job_at run k).task fit.task in
      record {
        task = fit.task;
        arrival = sound.early k b;
        cost_low = law.cost_positive (job_at run k) fit.fit;
        cost_high = law.cost_bound (job_at run k) fit.fit;
        fit = fit.fit;
        own_fit = sym ((laws.tabled (job_at run k).task fit.task).same_fits (job_at run k)) ∙ fit.fit;
      }

  -- what runs is in the list
  pub tick_listed : (u k : ℕ) → u < t → tick_at run u ≡ Runs k → k < length run.jobs
  tick_listed u k h e = (sound.complies.valid.ticks u k (omega (arith, sound.now)) e).pending.listed

  pub service_within : (k : ℕ) → service_of run k t ≤ (job_at run k).cost
  service_within k = within_cost w.cuts w.sheet run sound.complies.valid k t (omega (arith, sound.now))

  -- the number of the next job has no service yet
  pub next_unserved : (u : ℕ) → u ≤ t → service_of run (length run.jobs) u ≡ 0
  next_unserved u h = service_unlisted run (length run.jobs) (length run.jobs) u (omega (arith, sound.now))
      (λ v m b e. tick_listed v m (omega arith) e) (omega arith)

  -- a job that has not begun, or is done, can be cut
  pub unbegun_cut : (k : ℕ) → k < length run.jobs → service_of run k t ≡ 0 → can_cut w.cuts w.sheet run k t ≡ true
  unbegun_cut k b z =
      let fit = sound.complies.valid.jobs k b in
      ap (w.cuts.cuttable (task_at w.sheet (job_at run k).task) (job_at run k)) z ∙ (laws.cuts (job_at run k).task fit.task).cut_first (job_at run k) fit.fit

  pub done_cut : (k : ℕ) → k < length run.jobs → (job_at run k).cost ≤ service_of run k t → can_cut w.cuts w.sheet run k t ≡ true
  done_cut k b done =
      let fit = sound.complies.valid.jobs k b in
      (laws.cuts (job_at run k).task fit.task).cut_last (job_at run k) (service_of run k t) fit.fit done

  -- beside the job inside a segment all can be cut
  pub others_cut : (k n : ℕ) → inside_segment w run t ≡ Some k → n < length run.jobs → n ≢ k → can_cut w.cuts w.sheet run n t ≡ true
  others_cut k n e b ne =
      let inside = inside_some w run t k e in
      elim (cases_Bool (can_cut w.cuts w.sheet run n t)) [
        | inl c ↦ c
        | inr f ↦ absurd (ne (sound.single n k b inside.listed f inside.uncut))
      ]

  module _ (y : Tick) where
    -- a tick changes nothing for a job that it does not run
    pub service_stays : (k : ℕ) → y ≢ Runs k → service_of (with_tick run y) k (suc t) ≡ service_of run k t
    service_stays k other =
        let f : runs k y ≡ false = false_from_ne_true _ (λ r. other (runs_tells k y r)) in
        omega (arith, service_new run y k t sound.now, ap (λ (b : Bool). cond {A = ℕ} b 1 0) f)

    pub cut_stays : (k : ℕ) → y ≢ Runs k → can_cut w.cuts w.sheet (with_tick run y) k (suc t) ≡ can_cut w.cuts w.sheet run k t
    unfolding with_tick
    cut_stays k other = ap (w.cuts.cuttable (task_at w.sheet (job_at run k).task) (job_at run k)) (service_stays k other)

-- before the arrivals of task o at t, its jobs have arrived before t
pub own_past : (w : World) (o t : ℕ) (run : Run) → IsBetween w o t run → (k : ℕ) → k < length run.jobs → (job_at run k).task ≡ o → (job_at run k).arrival < t
own_past w o t run between k b of =
    let early = between.sound.early k b in
    elim (cases_eq (job_at run k).arrival t) [
      | inl at ↦ absurd (let f = between.fresh k b at in omega arith)
      | inr ne ↦ omega arith
    ]
