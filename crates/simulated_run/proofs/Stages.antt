-- Every stage of a simulated run is sound: after a tick, and after the arrivals of some tasks or jobs.
use Rattle.std.proofs.Common.{◌≡◌, ℕ, zero, suc, ◌+◌, ◌-◌, ◌<◌, ◌≤◌, Bool, true, false, cond, [], length, refl, sym, ◌∙◌, ap, subst, inl, inr, arith}
use Rattle.std.specs.Prelude.{nat_le}
use Rattle.std.proofs.lemmas.Bool.{cases_lt, cases_eq, and_parts, leb-true, le-leb}
use Rattle.std.proofs.lemmas.Bool.Decides.{nat_tests}
use Rattle.lists.proofs.SearchFacts.{greatest_passes}
use Rattle.lists.proofs.SumFacts.{at_most_one}
use Rattle.curve.specs.Curves.{alpha_of}
use Rattle.curve.proofs.CurveFacts.{alpha_mono}
use Rattle.lists.proofs.FirstFacts.{all_parts, all_from}
use Rattle.task_sheet.specs.Sheets.{task_at}
use Rattle.task_sheet.specs.declared.tasks.Job.{Job}
use Rattle.run_model.specs.declared.run.Run.{Run}
use Rattle.run_model.specs.declared.run.Tick.{Tick}
use Rattle.run_model.specs.declared.run.Tick.TheVariants.{Off}
use Rattle.run_model.specs.Runs.{job_at}
use Rattle.schedule_laws.specs.Compliance.{arrives_in, arrivals_of, IsCompliant}
use Rattle.simulated_run.specs.declared.mode.Mode.{Mode}
use Rattle.simulated_run.specs.declared.mode.Mode.TheVariants.{Dense, Seed}
use Rattle.simulated_run.specs.Jobs.{after_load, new_job, last_release}
use Rattle.simulated_run.specs.SimulatedRun.{World, Moment, with_job, with_tick, admits, allowance_of, arriving, after_arriving, is_off, may_be_off}
use Rattle.simulated_run.specs.SimulatedRun.{choice, room, add_job, add_jobs, arrive_of, arrive_below, add_tick, moment_after, simulated_run}
use Rattle.simulated_run.proofs.RunFacts.{job_kept, job_new, jobs_more, arrivals_more, arrivals_le}
use Rattle.simulated_run.proofs.JobFacts.{new_fits_by}
use Rattle.simulated_run.proofs.Soundness.{IsLawful, IsSound, HasRoom}
use Rattle.simulated_run.proofs.AddedJobs.{sound_job}
use Rattle.simulated_run.proofs.AddedTicks.{MayFollow, sound_tick, choice_follows, off_follows}

-- no more jobs arrive than are allowed
pub arriving_within : (mode : Mode) (allowance state : ℕ) → arriving mode allowance state ≤ allowance
arriving_within Dense allowance state = omega arith
arriving_within (Seed seed) allowance state = elim (cases_eq allowance 0) [ inl z ↦ grind (arith, nat_tests) | inr nz ↦ grind (arith, nat_tests) ]

-- a tick is off only where it may be
pub off_allowed : (mode : Mode) (may : Bool) (state : ℕ) → is_off mode may state ≡ true → may ≡ true
off_allowed Dense may state h = h
off_allowed (Seed seed) may state h = (and_parts may _ h).0

-- no job of task n, or of one after it, has arrived at t
abbrev pub IsFresh : ℕ → ℕ → Run → Type 0
IsFresh n t run = (k : ℕ) → k < length run.jobs → (job_at run k).arrival ≡ t → (job_at run k).task < n

-- before the arrivals at t
pub record IsBegun (w : World) (t : ℕ) (run : Run) : Type 0 where
  pub sound : IsSound w t run
  pub past : (k : ℕ) → k < length run.jobs → (job_at run k).arrival < t

-- after the arrivals at t of the tasks below n
pub record IsBetween (w : World) (n t : ℕ) (run : Run) : Type 0 where
  pub sound : IsSound w t run
  pub fresh : IsFresh n t run

-- after some of the arrivals at t of task o, of which n more may arrive
pub record IsAmid (w : World) (o t n : ℕ) (run : Run) : Type 0 where
  pub sound : IsSound w t run
  pub left : HasRoom w o t n run
  pub fresh : IsFresh (suc o) t run

past_tick : (t : ℕ) (run : Run) (y : Tick) → ((k : ℕ) → k < length run.jobs → (job_at run k).arrival ≤ t) → (k : ℕ) →
    k < length (with_tick run y).jobs → (job_at (with_tick run y) k).arrival < suc t
unfolding with_tick
past_tick t run y early k b = omega (arith, early k b)

module _ (w : World) (laws : IsLawful w) where
  by_off : {t : ℕ} {run : Run} {y : Tick} (off : Bool) → (off ≡ true → MayFollow w t run Off) → MayFollow w t run y → MayFollow w t run (cond off Off y)
  by_off true a b = a refl
  by_off false a b = b

  -- as many jobs as are allowed have room
  pub allowed_has_room : (o t : ℕ) (run : Run) → o < length w.sheet.tasks → IsSound w t run → IsFresh o t run →
      HasRoom w o t (allowance_of (task_at w.sheet o).curve o run t) run
  unfolding allowance_of
  allowed_has_room o t run b sound fresh =
      let curve = (task_at w.sheet o).curve in
      let none : admits curve o run t 0 ≡ true =
      all_from (λ s. nat_le (arrivals_of run o s t + 0) (alpha_of curve (t + 1 - s))) (t + 1)
      (λ s h. le-leb _ _ (omega (
        arith,
        sound.complies.curves o s t b (omega arith),
        alpha_mono curve (laws.sheet.each o b).curve (t - s) (t + 1 - s) (omega arith),
      ))) in
      let all : admits curve o run t (allowance_of curve o run t) ≡ true = greatest_passes (admits curve o run t) (alpha_of curve 1) none in
      λ s h. (
      let at : arrivals_of run o s t + allowance_of curve o run t ≤ alpha_of curve (t + 1 - s) =
      leb-true _ _
      (all_parts (λ s. nat_le (arrivals_of run o s t + allowance_of curve o run t) (alpha_of curve (t + 1 - s))) (t + 1) s all (omega arith)) in
      let same : arrivals_of run o s (suc t) ≤ arrivals_of run o s t =
      arrivals_le run o s (suc t) s t (λ k c e. (let f = fresh k c in grind (arith, nat_tests))) in
      omega (arith, at, same)
      )

  fresh_job : (o t : ℕ) (run : Run) (j : Job) → j.task ≡ o → IsFresh (suc o) t run → IsFresh (suc o) t (with_job run j)
  fresh_job o t run j of fresh k c e = elim (cases_lt k (length run.jobs)) [
    | inl l ↦ omega (arith, fresh k l (sym (ap (λ (v : Job). v.arrival) (job_kept run j k l)) ∙ e), ap (λ (v : Job). v.task) (job_kept run j k l))
    | inr l ↦
        let at : length run.jobs ≡ k = omega (arith, jobs_more run j) in
        omega (arith, of, ap (λ i. (job_at (with_job run j) i).task) at, ap (λ (v : Job). v.task) (job_new run j (length run.jobs) refl))
  ]

  -- one job more, of those that may arrive
  pub amid_job : (o t n : ℕ) (m : Moment) → o < length w.sheet.tasks → IsAmid w o t (suc n) m.run → IsAmid w o t n (add_job w o t m).run
  unfolding add_job new_job
  amid_job o t n m b amid =
      let last : ℕ = last_release o m.run.jobs in
      let j : Job = new_job w.mode (task_at w.sheet o) o t last m.state in
      let fits : w.cuts.fits (task_at w.sheet o) j ≡ true =
      new_fits_by w.mode (task_at w.sheet o) (laws.sheet.each o b) o t last m.state w.cuts (laws.tabled o b) in
      record {
        sound = sound_job w laws t m.run amid.sound j b refl fits (after_load w.mode (task_at w.sheet o) m.state) refl (λ s h. omega (arith, amid.left s h));
        left = λ s h. omega (arith, amid.left s h, arrivals_more m.run j o s (suc t), at_most_one (arrives_in o s (suc t) j));
        fresh = fresh_job o t m.run j refl amid.fresh;
      }

  pub amid_jobs : (o t r n : ℕ) (m : Moment) → o < length w.sheet.tasks → n ≤ r → IsAmid w o t r m.run → IsAmid w o t (r - n) (add_jobs w o t n m).run
  amid_jobs o t r zero m b h start = let e : r ≡ r - 0 = omega arith in subst (λ i. IsAmid w o t i m.run) e start
  amid_jobs o t r (suc n) m b h start =
      let e : r - n ≡ suc (r - suc n) = omega arith in
      amid_job o t (r - suc n) (add_jobs w o t n m) b (subst (λ i. IsAmid w o t i (add_jobs w o t n m).run) e (amid_jobs o t r n m b (omega arith) start))

  -- where a task's arrivals begin
  pub amid_start : (o t : ℕ) (m : Moment) → o < length w.sheet.tasks → IsBetween w o t m.run → IsAmid w o t (room w o t m) m.run
  amid_start o t m b between = record {
    sound = between.sound;
    left = allowed_has_room o t m.run b between.sound between.fresh;
    fresh = λ k c e. (let f = between.fresh k c e in omega arith);
  }

  pub between_task : (o t : ℕ) (m : Moment) → o < length w.sheet.tasks → IsBetween w o t m.run → IsBetween w (suc o) t (arrive_of w o t m).run
  unfolding arrive_of
  between_task o t m b between =
      let g : ℕ = room w o t m in
      let start : Moment = record { run = m.run; state = after_arriving w.mode g m.state } in
      let done = amid_jobs o t g (arriving w.mode g m.state) start b (arriving_within w.mode g m.state) (amid_start o t m b between) in
      record { sound = done.sound; fresh = done.fresh }

  pub between_tasks : (t n : ℕ) (m : Moment) → n ≤ length w.sheet.tasks → IsBetween w 0 t m.run → IsBetween w n t (arrive_below w t n m).run
  between_tasks t zero m h start = start
  between_tasks t (suc n) m h start = between_task n t (arrive_below w t n m) (omega arith) (between_tasks t n m (omega arith) start)

  pub begun_tick : (t : ℕ) (m : Moment) → IsSound w t m.run → IsBegun w (suc t) (add_tick w t m).run
  unfolding add_tick
  begun_tick t m sound =
      let may : Bool = may_be_off w.sbf m.run t in
      let off : Bool = is_off w.mode may m.state in
      let follows : MayFollow w t m.run (cond off Off (choice w m.run t)) =
      by_off off (λ e. off_follows w laws t m.run sound (off_allowed w.mode may m.state e))
      (choice_follows w laws t m.run sound) in
      record {
        sound = sound_tick w laws t m.run sound (cond off Off (choice w m.run t)) follows;
        past = past_tick t m.run (cond off Off (choice w m.run t)) sound.early;
      }

  between_start : (t : ℕ) (run : Run) → IsBegun w t run → IsBetween w 0 t run
  between_start t run begun = record { sound = begun.sound; fresh = λ k b e. (let p = begun.past k b in absurd (omega arith)) }

  nothing : IsSound w 0 (record { jobs = []; ticks = [] })
  unfolding arrivals_of
  nothing = record {
    now = refl;
    early = λ k b. absurd (omega arith);
    next = λ k state b. absurd (omega arith);
    complies = record {
      valid = record { jobs = λ k b. absurd (omega arith); releases = λ k b. absurd (omega arith); ticks = λ u k b. absurd (omega arith) };
      curves = λ o s u b h. omega arith;
      supplied = λ a u h b. (let e : u - a ≡ 0 = omega arith in omega (arith, ap w.sbf e, laws.starts));
      conserving = λ u k b. absurd (omega arith);
      segments = λ u k b. absurd (omega arith);
      policy = λ u k n b. absurd (omega arith);
    };
    ahead = λ k n b. absurd (omega arith);
    single = λ k n b. absurd (omega arith);
  }

  -- the stages of a simulated run

  pub begun : (t : ℕ) → IsBegun w t (moment_after w t).run
  begun zero = record { sound = nothing; past = λ k b. absurd (omega arith) }
  begun (suc t) =
      begun_tick t (arrive_below w t (length w.sheet.tasks) (moment_after w t))
      (between_tasks t (length w.sheet.tasks) (moment_after w t) (omega arith) (between_start t (moment_after w t).run (begun t))).sound

  pub between : (t n : ℕ) → n ≤ length w.sheet.tasks → IsBetween w n t (arrive_below w t n (moment_after w t)).run
  between t n h = between_tasks t n (moment_after w t) h (between_start t (moment_after w t).run (begun t))

  -- whatever the generator's state
  pub amid : (t o r : ℕ) (state : ℕ) → o < length w.sheet.tasks → r ≤ room w o t (arrive_below w t o (moment_after w t)) →
      IsAmid w o t (room w o t (arrive_below w t o (moment_after w t)) - r)
      (add_jobs w o t r (record { run = (arrive_below w t o (moment_after w t)).run; state = state })).run
  amid t o r state b h =
      let m : Moment = arrive_below w t o (moment_after w t) in
      amid_jobs o t (room w o t m) r (record { run = m.run; state = state }) b h (amid_start o t m b (between t o (omega arith)))

  pub complies : (n : ℕ) → IsCompliant w.policy w.cuts w.sbf w.sheet (simulated_run w n)
  unfolding simulated_run
  complies n = (begun n).sound.complies
