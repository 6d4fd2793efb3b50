-- One more job.
use Rattle.std.proofs.Common.{◌≡◌, ◌≢◌, ℕ, suc, ◌+◌, ◌-◌, ◌<◌, ◌≤◌, ◌==◌, Bool, true, false, cond, [], ◌∷◌, ◌++◌, length, refl, sym, ◌∙◌, ap, subst}
use Rattle.std.proofs.Common.{inl, inr, arith}
use Rattle.std.proofs.lemmas.Bool.{cases_Bool, cases_lt, cases_eq, and_parts, eqb-true, eq-eqb, ne_eqb}
use Rattle.std.proofs.lemmas.Bool.Decides.{nat_tests}
use Rattle.curve.specs.Curves.{alpha_of}
use Rattle.curve.proofs.CurveFacts.{alpha_mono}
use Rattle.task_sheet.specs.Sheets.{task_at, IsOf, IsTimely}
use Rattle.task_sheet.specs.declared.tasks.Job.{Job}
use Rattle.policy.specs.Keys.{key_le}
use Rattle.run_model.specs.declared.run.Run.{Run}
use Rattle.run_model.specs.declared.run.Tick.TheVariants.{Runs}
use Rattle.run_model.specs.Runs.{job_at, tick_at, service_of, ticks_in, IsPending}
use Rattle.schedule_laws.specs.Compliance.{arrives_in, arrivals_of, IsWithinCurves}
use Rattle.simulated_run.specs.Jobs.{released_by, last_release}
use Rattle.simulated_run.specs.SimulatedRun.{World, with_job}
use Rattle.simulated_run.proofs.RunFacts.{job_kept, job_new, jobs_more, arrivals_more, arrivals_le, service_unlisted}
use Rattle.simulated_run.proofs.ReleaseFacts.{release_after, release_soon, release_again, last_more, last_within}
use Rattle.simulated_run.proofs.Soundness.{IsLawful, IsSound, HasRoom}

module _ (w : World) (laws : IsLawful w) (t : ℕ) (run : Run) (sound : IsSound w t run) (j : Job) (of : IsOf w.sheet j)
    (at_t : j.arrival ≡ t) (fits : w.cuts.fits (task_at w.sheet j.task) j ≡ true)
    (state : ℕ) (released : j.release ≡ released_by w.mode (task_at w.sheet j.task).jitter t (last_release j.task run.jobs) state) where
  abbrev jitter : ℕ → ℕ
  jitter o = (task_at w.sheet o).jitter

  -- the jobs of the task so far are released by t and its jitter
  soon_before : last_release j.task run.jobs ≤ t + jitter j.task
  soon_before = last_within j.task (t + jitter j.task) run
      (λ k b same. omega (arith, (sound.complies.valid.releases k b).timely.soon, sound.early k b, ap jitter same))

  timely : IsTimely w.sheet j
  timely = record {
    after = omega (arith, at_t, released, release_after w.mode (jitter j.task) t (last_release j.task run.jobs) state);
    soon = omega (arith, at_t, released, release_soon w.mode (jitter j.task) t (last_release j.task run.jobs) state soon_before);
  }

  -- no job of the task so far is released later
  released_last : (k : ℕ) → k < length run.jobs → (job_at run k).task ≡ j.task → (job_at run k).release ≤ j.release
  released_last k b same =
      let last : (job_at run k).release ≤ released_by w.mode (jitter j.task) t (last_release j.task run.jobs) state =
      subst (λ o. (job_at run k).release ≤ released_by w.mode (jitter o) t (last_release o run.jobs) state) same (sound.next k state b) in
      omega (arith, last, released)

  -- nor is one of its jobs that arrives after it
  released_next : (other : ℕ) → j.release ≤ released_by w.mode (jitter j.task) t j.release other
  released_next other =
      subst (λ r. r ≤ released_by w.mode (jitter j.task) t r other) (sym released)
      (release_again w.mode (jitter j.task) t (last_release j.task run.jobs) state other)

  -- what is released no later than the next job of its task was, so far
  next_more : (o r other : ℕ) → (j.task ≢ o → r ≤ released_by w.mode (jitter o) t (last_release o run.jobs) other) →
      (o ≡ j.task → r ≤ j.release) → r ≤ released_by w.mode (jitter o) t (last_release o (with_job run j).jobs) other
  unfolding with_job
  next_more o r other old own = elim (cases_eq j.task o) [
    | inr ne ↦
        let same : last_release o (run.jobs ++ j ∷ []) ≡ last_release o run.jobs =
        last_more o run.jobs j ∙ ap (λ (b : Bool). cond {A = ℕ} b j.release (last_release o run.jobs)) (ne_eqb j.task o ne) in
        subst (λ last. r ≤ released_by w.mode (jitter o) t last other) (sym same) (old ne)
    | inl e ↦
        let now : last_release o (run.jobs ++ j ∷ []) ≡ j.release =
        last_more o run.jobs j ∙ ap (λ (b : Bool). cond {A = ℕ} b j.release (last_release o run.jobs)) (eq-eqb j.task o e) in
        let next : j.release ≤ released_by w.mode (jitter o) t j.release other =
        subst (λ i. j.release ≤ released_by w.mode (jitter i) t j.release other) e (released_next other) in
        subst (λ last. r ≤ released_by w.mode (jitter o) t last other) (sym now) (omega (arith, own (sym e), next))
  ]

  -- what holds of the jobs so far, and of the new one
  each : (P : ℕ → Job → Type 0) → ((k : ℕ) → k < length run.jobs → P k (job_at run k)) → P (length run.jobs) j →
      (k : ℕ) → k < length (with_job run j).jobs → P k (job_at (with_job run j) k)
  each P old new k b = elim (cases_lt k (length run.jobs)) [
    | inl c ↦ subst (P k) (sym (job_kept run j k c)) (old k c)
    | inr c ↦
        let at : length run.jobs ≡ k = omega (arith, jobs_more run j) in
        subst (λ i. P i (job_at (with_job run j) i)) at (subst (P (length run.jobs)) (sym (job_new run j (length run.jobs) refl)) new)
  ]

  unserved : (u : ℕ) → u ≤ t → service_of run (length run.jobs) u ≡ 0
  unserved u h =
      service_unlisted run (length run.jobs) (length run.jobs) u (omega (arith, sound.now))
      (λ v m b e. (sound.complies.valid.ticks v m (omega (arith, sound.now)) e).pending.listed) (omega arith)

  at_new : (u : ℕ) → u ≤ t → w.cuts.cuttable (task_at w.sheet j.task) j (service_of run (length run.jobs) u) ≡ true
  at_new u h = ap (w.cuts.cuttable (task_at w.sheet j.task) j) (unserved u h) ∙ (laws.cuts j.task of).cut_first j fits

  -- a job that was pending before t is an old one
  old_pending : (k u : ℕ) → u < t → IsPending (with_job run j) k u → IsPending run k u
  unfolding with_job service_of
  old_pending k u h p = elim (cases_lt k (length run.jobs)) [
    | inl c ↦
        record {
          listed = c;
          released = subst (λ (v : Job). v.release ≤ u) (job_kept run j k c) p.released;
          not_done = subst (λ (v : Job). service_of run k u < v.cost) (job_kept run j k c) p.not_done;
        }
    | inr c ↦
        let l = p.listed in
        let a = p.released in
        let at : k ≡ length run.jobs = omega (arith, jobs_more run j) in
        absurd (omega (
          arith,
          timely.after,
          ap (λ i. (job_at (with_job run j) i).release) at,
          ap (λ (v : Job). v.release) (job_new run j (length run.jobs) refl),
        ))
  ]

  still_pending : (k u : ℕ) → IsPending run k u → IsPending (with_job run j) k u
  unfolding with_job service_of
  still_pending k u p =
      let l = p.listed in
      record {
        listed = omega (arith, jobs_more run j);
        released = subst (λ (v : Job). v.release ≤ u) (sym (job_kept run j k l)) p.released;
        not_done = subst (λ (v : Job). service_of run k u < v.cost) (sym (job_kept run j k l)) p.not_done;
      }

  job_of_tick : (u k : ℕ) → u < t → tick_at run u ≡ Runs k → job_at (with_job run j) k ≡ job_at run k
  job_of_tick u k h e = job_kept run j k (sound.complies.valid.ticks u k (omega (arith, sound.now)) e).pending.listed

  within_more : HasRoom w j.task t 1 run → IsWithinCurves w.sheet (with_job run j)
  within_more room o s u b h = elim (cases_Bool (arrives_in o s u j)) [
    | inr out ↦ omega (arith, sound.complies.curves o s u b h, arrivals_more run j o s u, ap (λ (v : Bool). cond {A = ℕ} v 1 0) out)
    | inl is ↦
        let p = and_parts (j.task == o) _ is in
        let of_o : j.task ≡ o = eqb-true j.task o p.0 in
        let in_window : s ≤ t = grind (arith, nat_tests) in
        let past : t < u = grind (arith, nat_tests) in
        let fewer : arrivals_of run j.task s u ≤ arrivals_of run j.task s (suc t) =
        arrivals_le run j.task s u s (suc t) (λ k c e. (let a = sound.early k c in grind (arith, nat_tests))) in
        let more : alpha_of (task_at w.sheet j.task).curve (t + 1 - s) ≤ alpha_of (task_at w.sheet j.task).curve (u - s) =
        alpha_mono (task_at w.sheet j.task).curve (laws.sheet.each j.task of).curve (t + 1 - s) (u - s) (omega arith) in
        let one : arrivals_of (with_job run j) j.task s u ≤ alpha_of (task_at w.sheet j.task).curve (u - s) =
        omega (
          arith,
          arrivals_more run j j.task s u,
          fewer,
          more,
          room s in_window,
          ap (λ (v : Bool). cond {A = ℕ} v 1 0) (subst (λ i. arrives_in i s u j ≡ true) (sym of_o) is),
        ) in
        subst (λ i. arrivals_of (with_job run j) i s u ≤ alpha_of (task_at w.sheet i).curve (u - s)) of_o one
  ]

  -- the run with one job more, which may arrive at t
  pub sound_job : HasRoom w j.task t 1 run → IsSound w t (with_job run j)
  unfolding with_job service_of ticks_in
  sound_job room = record {
    now = sound.now;
    early = each (λ k v. v.arrival ≤ t) sound.early (omega arith);
    next = λ k other b. each (λ i v. v.release ≤ released_by w.mode (jitter v.task) t (last_release v.task (with_job run j).jobs) other)
        (λ i c. next_more (job_at run i).task (job_at run i).release other (λ ne. sound.next i other c) (released_last i c))
        (next_more j.task j.release other (λ ne. absurd (ne refl)) (λ same. omega arith)) k b;
    complies = record {
      valid = record {
        jobs = λ k b. record {
          task = each (λ i v. IsOf w.sheet v) (λ i c. (sound.complies.valid.jobs i c).task) of k b;
          fit = each (λ i v. w.cuts.fits (task_at w.sheet v.task) v ≡ true) (λ i c. (sound.complies.valid.jobs i c).fit) fits k b;
        };
        releases = λ k b. record {
          timely = each (λ i v. IsTimely w.sheet v) (λ i c. (sound.complies.valid.releases i c).timely) timely k b;
          order = λ n c. each (λ i v. (job_at (with_job run j) n).task ≡ v.task →
              (job_at (with_job run j) n).arrival < v.arrival → (job_at (with_job run j) n).release ≤ v.release)
              (λ i b. each (λ m v. v.task ≡ (job_at run i).task → v.arrival < (job_at run i).arrival → v.release ≤ (job_at run i).release)
              (λ m c same less. (sound.complies.valid.releases i b).order m c same less)
              (λ same less. absurd (omega (arith, sound.early i b))) n c)
              (each (λ m v. v.task ≡ j.task → v.arrival < j.arrival →
              v.release ≤ j.release) (λ m c same less. released_last m c same) (λ same less. absurd (omega arith)) n c) k b;
        };
        ticks = λ u k h e. record {
          pending = still_pending k u (sound.complies.valid.ticks u k h e).pending;
          in_order = λ n b. each (λ i v. v.task ≡ (job_at (with_job run j) k).task →
              v.arrival < (job_at (with_job run j) k).arrival → v.cost ≤ service_of run i u)
              (λ i c same less. (sound.complies.valid.ticks u k h e).in_order i c
              (same ∙ ap (λ (v : Job). v.task) (job_of_tick u k (omega (arith, sound.now)) e))
              (omega (arith, less, ap (λ (v : Job). v.arrival) (job_of_tick u k (omega (arith, sound.now)) e))))
              (λ same less. absurd
              (omega (
                arith,
                less,
                ap (λ (v : Job). v.arrival) (job_of_tick u k (omega (arith, sound.now)) e),
                sound.early k (sound.complies.valid.ticks u k h e).pending.listed,
              )))
              n b;
        };
      };
      curves = within_more room;
      supplied = sound.complies.supplied;
      conserving = λ u k h e p. sound.complies.conserving u k h e (old_pending k u (omega (arith, sound.now)) p);
      segments = λ u k h b on. each (λ i v. w.cuts.cuttable (task_at w.sheet v.task) v (service_of run i u) ≡ false → tick_at run u ≡ Runs i)
          (λ i c f. sound.complies.segments u i h c on f)
          (λ f. absurd (let t = at_new u (omega (arith, sound.now)) in cc)) k b;
      policy = λ u k n h e cut p. (
          let q = old_pending n u (omega (arith, sound.now)) p in
          let same_k = job_of_tick u k (omega (arith, sound.now)) e in
          let same_n = job_kept run j n q.listed in
          let old = sound.complies.policy u k n h e
          (subst (λ (v : Job). w.cuts.cuttable (task_at w.sheet v.task) v (service_of run k u) ≡ true) same_k cut) q in
          let half = subst (λ (v : Job). key_le (w.policy.key w.sheet (job_at run k)) (w.policy.key w.sheet v) ≡ true) (sym same_n) old in
          subst (λ (v : Job). key_le (w.policy.key w.sheet v) (w.policy.key w.sheet (job_at (with_job run j) n)) ≡ true) (sym same_k) half
          );
    };
    ahead =
        λ k n bk bn. each
        (λ i v. 0 < service_of run i t → (job_at (with_job run j) n).task ≡ v.task → (job_at (with_job run j) n).arrival <
        v.arrival → (job_at (with_job run j) n).cost ≤ service_of run n t)
        (λ i b p. each (λ m v. v.task ≡ (job_at run i).task → v.arrival < (job_at run i).arrival → v.cost ≤ service_of run m t)
        (λ m c same less. sound.ahead i m b c p same less)
        (λ same less. absurd (omega (arith, sound.early i b))) n bn)
        (λ p same less. absurd (omega (arith, unserved t (omega arith)))) k bk;
    single =
        λ k n bk bn. each
        (λ i v. w.cuts.cuttable (task_at w.sheet v.task) v (service_of run i t) ≡ false → w.cuts.cuttable
        (task_at w.sheet (job_at (with_job run j) n).task) (job_at (with_job run j) n) (service_of run n t) ≡ false → i ≡ n)
        (λ i b f. each (λ m v. w.cuts.cuttable (task_at w.sheet v.task) v (service_of run m t) ≡ false → i ≡ m)
        (λ m c g. sound.single i m b c f g)
        (λ g. absurd (let t = at_new t (omega arith) in cc)) n bn)
        (λ f g. absurd (let t = at_new t (omega arith) in cc)) k bk;
  }
