-- One more tick.
use Rattle.std.proofs.Common.{◌≡◌, ◌≢◌, ℕ, suc, ◌+◌, ◌-◌, ◌<◌, ◌≤◌, ◌⊎◌, Bool, true, false, cond, length, Option, Some, None, refl, sym, ◌∙◌, ap}
use Rattle.std.proofs.Common.{subst, inl, inr, arith}
use Rattle.std.specs.Prelude.{nat_le}
use Rattle.std.proofs.lemmas.Bool.{cases_Bool, cases_lt, leb-true}
use Rattle.lists.proofs.FirstFacts.{all_parts}
use Rattle.lists.proofs.SearchFacts.{first_cases, best_cases, best_first, no_best}
use Rattle.task_sheet.specs.Sheets.{task_at}
use Rattle.policy.specs.Keys.{key_le}
use Rattle.preemption.specs.CutLaws.{IsLawfulCut}
use Rattle.run_model.specs.declared.run.Run.{Run}
use Rattle.run_model.specs.declared.run.Tick.{Tick}
use Rattle.run_model.specs.declared.run.Tick.TheVariants.{Off, Idle, Runs}
use Rattle.run_model.specs.Runs.{job_at, tick_at, runs, is_on, service_of, ticks_in, is_pending, IsPending, IsDone}
use Rattle.run_model.proofs.PendingFacts.{pending_from, pending_to}
use Rattle.run_model.proofs.ServiceFacts.{runs_tells, tick_cases}
use Rattle.schedule_laws.specs.Compliance.{arrivals_of, can_cut, JobFits, IsReleased, MayRun, IsSupplied, IsWithinCurves}
use Rattle.schedule_laws.proofs.PrefixFacts.{released_before, begun_where_uncut}
use Rattle.simulated_run.specs.Jobs.{released_by, last_release}
use Rattle.simulated_run.specs.SimulatedRun.{World, with_tick, choice, chosen, inside_segment, most_urgent, may_be_off, comes_before}
use Rattle.simulated_run.proofs.OrderFacts.{comes_itself, comes_chain, later_key, earlier_first}
use Rattle.simulated_run.proofs.RunFacts.{ticks_more, tick_kept, tick_new, service_kept, service_new, window_kept, window_new}
use Rattle.simulated_run.proofs.ReleaseFacts.{release_later}
use Rattle.simulated_run.proofs.Soundness.{IsLawful, IsSound}

-- what tick t may be, after the run before it
pub record MayFollow (w : World) (t : ℕ) (run : Run) (y : Tick) : Type 0 where
  pub off : y ≡ Off → may_be_off w.sbf run t ≡ true
  pub idle : y ≡ Idle → (k : ℕ) → IsPending run k t → ⊥
  pub inside : y ≢ Off → (k : ℕ) → k < length run.jobs → can_cut w.cuts w.sheet run k t ≡ false → y ≡ Runs k
  pub may_run : (k : ℕ) → y ≡ Runs k → MayRun run k t
  pub policy : (k n : ℕ) → y ≡ Runs k → can_cut w.cuts w.sheet run k t ≡ true → IsPending run n t →
      key_le (w.policy.key w.sheet (job_at run k)) (w.policy.key w.sheet (job_at run n)) ≡ true

module _ (w : World) (laws : IsLawful w) (t : ℕ) (run : Run) (sound : IsSound w t run) where
  cut_laws : (k : ℕ) → k < length run.jobs → IsLawfulCut w.cuts (task_at w.sheet (job_at run k).task)
  cut_laws k b = laws.cuts (job_at run k).task (sound.complies.valid.jobs k b).task

  -- a job inside a segment has begun and is not done
  pub inside_served : (k : ℕ) → k < length run.jobs → can_cut w.cuts w.sheet run k t ≡ false → 0 < service_of run k t
  inside_served k b f = begun_where_uncut w.cuts w.sheet run k t (cut_laws k b) (sound.complies.valid.jobs k b).fit f

  pub inside_pending : (k : ℕ) → k < length run.jobs → can_cut w.cuts w.sheet run k t ≡ false → IsPending run k t
  inside_pending k b f = record {
    listed = b;
    released = omega (arith, released_before w.cuts w.sheet run sound.complies.valid k t (omega (arith, sound.now)) (inside_served k b f));
    not_done = elim (cases_lt (service_of run k t) (job_at run k).cost) [
      | inl l ↦ l
      | inr l ↦ absurd (let c = (cut_laws k b).cut_last (job_at run k) (service_of run k t) (sound.complies.valid.jobs k b).fit l in cc)
    ];
  }

  follows_inside : (k : ℕ) → k < length run.jobs → can_cut w.cuts w.sheet run k t ≡ false → MayFollow w t run (Runs k)
  follows_inside k b f = record {
    off = λ e. absurd (cc);
    idle = λ e. absurd (cc);
    inside = λ on i c g. ap Runs (sound.single k i b c f g);
    may_run = λ i e. (
        let s : k ≡ i = cc in
        subst (λ v. MayRun run v t) s (record {
          pending = inside_pending k b f;
          in_order =
              λ n c same less. sound.ahead k n b c (inside_served k b f) same less;
        })
        );
    policy = λ i n e cut p. (let s : k ≡ i = cc in let g = subst (λ v. can_cut w.cuts w.sheet run v t ≡ true) (sym s) cut in absurd (cc));
  }

  follows_urgent : (k : ℕ) → k < length run.jobs → is_pending run k t ≡ true → most_urgent w run t ≡ Some k →
      ((i : ℕ) → i < length run.jobs → can_cut w.cuts w.sheet run i t ≡ true) → MayFollow w t run (Runs k)
  unfolding most_urgent
  follows_urgent k b p is cuts =
      let is_first : (i : ℕ) → IsPending run i t → comes_before w run i k ≡ false =
      λ i q. best_first (λ i. is_pending run i t) (comes_before w run) (length run.jobs) k i (comes_chain w run)
      (comes_itself w run) is q.listed (pending_to run i t q) in
      let pends : IsPending run k t = pending_from run k t p in
      let orders : (n : ℕ) → n < length run.jobs → (job_at run n).task ≡ (job_at run k).task →
      (job_at run n).arrival < (job_at run k).arrival → IsDone run n t =
      λ n c same less. elim (cases_lt (service_of run n t) (job_at run n).cost) [
        | inr l ↦ l
        | inl l ↦
            let q : IsPending run n t = record {
              listed = c;
              released =
                  omega (arith, (sound.complies.valid.releases k b).order n c same less, pends.released);
              not_done = l;
            } in
            let le = laws.policy.in_order (job_at run n) (job_at run k) (sound.complies.valid.jobs n c).task
            (sound.complies.valid.jobs k b).task same (omega arith) in
            let first : comes_before w run n k ≡ true = earlier_first w run n k le same less in
            let g = is_first n q in
            absurd (cc)
      ] in
      record {
        off = λ e. absurd (cc);
        idle = λ e. absurd (cc);
        inside = λ on i c g. absurd (let z = cuts i c in cc);
        may_run = λ i e. (let s : k ≡ i = cc in subst (λ v. MayRun run v t) s (record { pending = pends; in_order = orders }));
        policy =
            λ i n e cut q.
            (let s : k ≡ i = cc in subst (λ v. key_le (w.policy.key w.sheet (job_at run v))
            (w.policy.key w.sheet (job_at run n)) ≡ true) s (later_key w run k n (is_first n q)));
      }

  pub choice_follows : MayFollow w t run (choice w run t)
  unfolding inside_segment most_urgent
  choice_follows = elim (first_cases (λ k. can_cut w.cuts w.sheet run k t) (length run.jobs)) [
    | inl f ↦
        let is : choice w run t ≡ Runs f.0 = ap (λ (o : Option ℕ). chosen o (most_urgent w run t)) f.1.is in
        subst (MayFollow w t run) (sym is) (follows_inside f.0 f.1.listed f.1.fails)
    | inr never ↦ elim (best_cases (λ k. is_pending run k t) (comes_before w run) (length run.jobs)) [
      | inl f ↦
          let is : choice w run t ≡ Runs f.0 = ap (λ (o : Option ℕ). chosen o (most_urgent w run t)) never.is ∙ ap (chosen None) f.1.is in
          subst (MayFollow w t run) (sym is) (follows_urgent f.0 f.1.listed f.1.passes f.1.is never.all)
      | inr nobody ↦
          let is : choice w run t ≡ Idle = ap (λ (o : Option ℕ). chosen o (most_urgent w run t)) never.is ∙ ap (chosen None) nobody in
          subst (MayFollow w t run) (sym is) (record {
            off = λ e. absurd (cc);
            idle = λ e k p. (let z = no_best (λ k. is_pending run k t) (comes_before w run)
                (length run.jobs) k nobody p.listed in let y = pending_to run k t p in absurd (cc));
            inside = λ on k b g. absurd (let z = never.all k b in cc);
            may_run = λ k e. absurd (cc);
            policy = λ k n e. absurd (cc);
          })
    ]
  ]

  pub off_follows : may_be_off w.sbf run t ≡ true → MayFollow w t run Off
  off_follows may = record {
    off = λ e. may;
    idle = λ e. absurd (cc);
    inside = λ on. absurd (on refl);
    may_run = λ k e. absurd (cc);
    policy = λ k n e. absurd (cc);
  }

  module _ (y : Tick) (follows : MayFollow w t run y) where
    -- what holds at the ticks so far, and at the new one
    at_each : (P : ℕ → Tick → Type 0) → ((u : ℕ) → u < length run.ticks → P u (tick_at run u)) → P t y → (u : ℕ) →
        u < length (with_tick run y).ticks → P u (tick_at (with_tick run y) u)
    at_each P old new u b = elim (cases_lt u t) [
      | inl c ↦ subst (P u) (sym (tick_kept run y u (omega (arith, sound.now)))) (old u (omega (arith, sound.now)))
      | inr c ↦
          let at : t ≡ u = omega (arith, ticks_more run y, sound.now) in
          subst (λ i. P i (tick_at (with_tick run y) i)) at (subst (P t) (sym (tick_new run y t sound.now)) new)
    ]

    same : (k u : ℕ) → u ≤ t → service_of (with_tick run y) k u ≡ service_of run k u
    same k u h = service_kept run y k u (omega (arith, sound.now))

    in_ticks : (u : ℕ) → u < length (with_tick run y).ticks → u ≤ t
    in_ticks u b = omega (arith, ticks_more run y, sound.now)

    there : (k u : ℕ) → u ≤ t → IsPending run k u → IsPending (with_tick run y) k u
    unfolding with_tick
    there k u h p = record { listed = p.listed; released = p.released; not_done = omega (arith, p.not_done, same k u h) }

    back : (k u : ℕ) → u ≤ t → IsPending (with_tick run y) k u → IsPending run k u
    unfolding with_tick
    back k u h p = record { listed = p.listed; released = p.released; not_done = omega (arith, p.not_done, same k u h) }

    done_there : (n u : ℕ) → u ≤ t → IsDone run n u → IsDone (with_tick run y) n u
    unfolding with_tick
    done_there n u h d = omega (arith, d, same n u h)

    cut_same : (k u : ℕ) → u ≤ t → can_cut w.cuts w.sheet (with_tick run y) k u ≡ can_cut w.cuts w.sheet run k u
    unfolding with_tick
    cut_same k u h = ap (w.cuts.cuttable (task_at w.sheet (job_at run k).task) (job_at run k)) (same k u h)

    -- not cut after the tick: the job that runs, or not cut before it
    after_tick : (k : ℕ) → k < length run.jobs → can_cut w.cuts w.sheet (with_tick run y) k (suc t) ≡ false →
        (y ≡ Runs k) ⊎ (can_cut w.cuts w.sheet run k t ≡ false)
    unfolding with_tick
    after_tick k b f = elim (cases_Bool (runs k y)) [
      | inl r ↦ inl (runs_tells k y r)
      | inr r ↦
          let e : service_of (with_tick run y) k (suc t) ≡ service_of run k t =
          omega (arith, service_new run y k t sound.now, ap (λ (b : Bool). cond {A = ℕ} b 1 0) r) in
          inr (ap (w.cuts.cuttable (task_at w.sheet (job_at run k).task) (job_at run k)) (sym e) ∙ f)
    ]

    grows : (k : ℕ) → service_of run k t ≤ service_of (with_tick run y) k (suc t)
    grows k = omega (arith, service_new run y k t sound.now)

    -- a window that ends with the new tick
    promised_now : (a : ℕ) → a ≤ t → w.sbf (t + 1 - a) ≤ ticks_in is_on (with_tick run y) a (t + 1 - a)
    unfolding may_be_off
    promised_now a h =
        let d : t + 1 - a ≡ t - a + 1 = omega arith in
        let e : t + 1 - a ≡ suc (t - a) = omega arith in
        let past : w.sbf (t - a) ≤ ticks_in is_on run a (t - a) = sound.complies.supplied a t h (omega (arith, sound.now)) in
        let now : ticks_in is_on (with_tick run y) a (t + 1 - a) ≡ ticks_in is_on run a (t - a) + cond (is_on y) 1 0 =
        ap (ticks_in is_on (with_tick run y) a) e ∙ window_new run y is_on a (t - a) (omega (arith, sound.now)) in
        elim (tick_cases y) [
          | inl off ↦
              let may : w.sbf (t + 1 - a) ≤ ticks_in is_on (with_tick run Off) a (t + 1 - a) =
              leb-true _ _
              (all_parts (λ s. nat_le (w.sbf (t + 1 - s)) (ticks_in is_on (with_tick run Off) s (t + 1 - s))) (t + 1) a (follows.off off) (omega arith)) in
              subst (λ x. w.sbf (t + 1 - a) ≤ ticks_in is_on (with_tick run x) a (t + 1 - a)) (sym off) may
          | inr (inl idle) ↦ omega (arith, laws.rises (t - a), past, now, ap w.sbf d, ap (λ (v : Tick). cond {A = ℕ} (is_on v) 1 0) idle)
          | inr (inr run) ↦ omega (arith, laws.rises (t - a), past, now, ap w.sbf d, ap (λ (v : Tick). cond {A = ℕ} (is_on v) 1 0) run.1)
        ]

    supply_more : IsSupplied w.sbf (with_tick run y)
    supply_more a u h b = elim (cases_lt t u) [
      | inr old ↦ omega (arith, sound.complies.supplied a u h (omega (arith, sound.now)), window_kept run y is_on a (u - a) (omega (arith, sound.now)))
      | inl new ↦
          let at : t + 1 ≡ u = omega (arith, ticks_more run y, sound.now) in
          elim (cases_lt a u) [
            | inr z ↦ let e : u - a ≡ 0 = omega arith in omega (arith, ap w.sbf e, laws.starts)
            | inl l ↦ subst (λ v. w.sbf (v - a) ≤ ticks_in is_on (with_tick run y) a (v - a)) at (promised_now a (omega arith))
          ]
    ]

    old_job : (k : ℕ) → k < length (with_tick run y).jobs → k < length run.jobs
    unfolding with_tick
    old_job k b = b

    old_keys : (k n : ℕ) → key_le (w.policy.key w.sheet (job_at run k)) (w.policy.key w.sheet (job_at run n)) ≡ true →
        key_le (w.policy.key w.sheet (job_at (with_tick run y) k)) (w.policy.key w.sheet (job_at (with_tick run y) n)) ≡ true
    unfolding with_tick
    old_keys k n h = h

    sound_early : (k : ℕ) → k < length (with_tick run y).jobs → (job_at (with_tick run y) k).arrival ≤ suc t
    unfolding with_tick
    sound_early k b = omega (arith, sound.early k b)

    sound_next : (k state : ℕ) → k < length (with_tick run y).jobs →
        (job_at (with_tick run y) k).release ≤ released_by w.mode (task_at w.sheet (job_at (with_tick run y) k).task).jitter
        (suc t) (last_release (job_at (with_tick run y) k).task (with_tick run y).jobs) state
    unfolding with_tick
    sound_next k state b =
        omega (
          arith,
          sound.next k state b,
          release_later w.mode (task_at w.sheet (job_at run k).task).jitter t (last_release (job_at run k).task run.jobs) state,
        )

    sound_releases : (k : ℕ) → k < length (with_tick run y).jobs → IsReleased w.sheet (with_tick run y) k
    unfolding with_tick
    sound_releases k b = record { timely = (sound.complies.valid.releases k b).timely; order = (sound.complies.valid.releases k b).order }

    sound_jobs : (k : ℕ) → k < length (with_tick run y).jobs → JobFits w.cuts w.sheet (with_tick run y) k
    unfolding with_tick
    sound_jobs k b = record { task = (sound.complies.valid.jobs k b).task; fit = (sound.complies.valid.jobs k b).fit }

    sound_curves : IsWithinCurves w.sheet (with_tick run y)
    unfolding with_tick arrivals_of
    sound_curves = sound.complies.curves

    old_task : (n k : ℕ) → (job_at (with_tick run y) n).task ≡ (job_at (with_tick run y) k).task → (job_at run n).task ≡ (job_at run k).task
    unfolding with_tick
    old_task n k e = e

    old_arrival : (n k : ℕ) → (job_at (with_tick run y) n).arrival < (job_at (with_tick run y) k).arrival → (job_at run n).arrival < (job_at run k).arrival
    unfolding with_tick
    old_arrival n k e = e

    may_run_there : (k u : ℕ) → u ≤ t → MayRun run k u → MayRun (with_tick run y) k u
    may_run_there k u h m =
        record {
          pending = there k u h m.pending;
          in_order =
              λ n b same less. done_there n u h (m.in_order n (old_job n b) (old_task n k same) (old_arrival n k less));
        }

    sound_ahead : (k n : ℕ) → k < length (with_tick run y).jobs → n < length (with_tick run y).jobs →
        0 < service_of (with_tick run y) k (suc t) →
        (job_at (with_tick run y) n).task ≡ (job_at (with_tick run y) k).task →
        (job_at (with_tick run y) n).arrival < (job_at (with_tick run y) k).arrival → IsDone (with_tick run y) n (suc t)
    unfolding with_tick
    sound_ahead k n b c p q less = elim (cases_Bool (runs k y)) [
      | inl r ↦ omega (arith, (follows.may_run k (runs_tells k y r)).in_order n c q less, grows n)
      | inr r ↦ omega (arith, sound.ahead k n b c (omega (arith, p, service_new run y k t sound.now, ap (λ (b : Bool). cond {A = ℕ} b 1 0) r)) q less, grows n)
    ]

    sound_single : (k n : ℕ) → k < length (with_tick run y).jobs → n < length (with_tick run y).jobs →
        can_cut w.cuts w.sheet (with_tick run y) k (suc t) ≡ false →
        can_cut w.cuts w.sheet (with_tick run y) n (suc t) ≡ false → k ≡ n
    sound_single k n b c f g = elim (after_tick k (old_job k b) f) [
      | inl r ↦ elim (after_tick n (old_job n c) g) [
        | inl s ↦ cc
        | inr s ↦ let z = follows.inside (λ o. cc) n (old_job n c) s in cc
      ]
      | inr r ↦ elim (after_tick n (old_job n c) g) [
        | inl s ↦ let z = follows.inside (λ o. cc) k (old_job k b) r in cc
        | inr s ↦ sound.single k n (old_job k b) (old_job n c) r s
      ]
    ]

    -- the run with one tick more, which may follow
    pub sound_tick : IsSound w (suc t) (with_tick run y)
    sound_tick = record {
      now = omega (arith, ticks_more run y, sound.now);
      early = sound_early;
      next = sound_next;
      complies = record {
        valid = record {
          jobs = sound_jobs;
          releases = sound_releases;
          ticks = λ u k h. at_each (λ i x. i ≤ t → x ≡ Runs k → MayRun (with_tick run y) k i)
              (λ i c l e. may_run_there k i l (sound.complies.valid.ticks i k c e))
              (λ l e. may_run_there k t l (follows.may_run k e)) u h (in_ticks u h);
        };
        curves = sound_curves;
        supplied = supply_more;
        conserving =
            λ u k h e p. at_each (λ i x. x ≡ Idle → IsPending run k i → ⊥) (λ i c. sound.complies.conserving i k c)
            (λ e p. follows.idle e k p) u h e (back k u (in_ticks u h) p);
        segments =
            λ u k h b on f. at_each (λ i x. x ≢ Off → can_cut w.cuts w.sheet run k i ≡ false → x ≡ Runs k)
            (λ i c. sound.complies.segments i k c (old_job k b)) (λ on f. follows.inside on k (old_job k b) f) u h on
            (sym (cut_same k u (in_ticks u h)) ∙ f);
        policy =
            λ u k n h e c p. old_keys k n
            (at_each
            (λ i x. x ≡ Runs k → can_cut w.cuts w.sheet run k i ≡ true → IsPending run n i → key_le
            (w.policy.key w.sheet (job_at run k)) (w.policy.key w.sheet (job_at run n)) ≡ true)
            (λ i c. sound.complies.policy i k n c) (follows.policy k n) u h e (sym (cut_same k u (in_ticks u h)) ∙ c)
            (back n u (in_ticks u h) p));
      };
      ahead = sound_ahead;
      single = sound_single;
    }
