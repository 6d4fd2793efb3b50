-- Steps "Service at the end" and "Completion" of docs/ANALYSIS.md:
-- a job has its threshold of service at the end, and is done by the bound.
use Rattle.std.proofs.Common.{◌≡◌, ℕ, suc, ◌+◌, ◌-◌, ◌<◌, ◌≤◌, ◌≢◌, ◌==◌, ◌&&◌, Bool, true, false, cond, not}
use Rattle.std.proofs.Common.{length, refl, sym, ◌∙◌, ap, subst, inl, inr, arith, eq-eqb}
use Rattle.std.proofs.lemmas.Bool.{cases_lt, cases_eq, and_from, ne_eqb}
use Rattle.lists.proofs.SumFacts.{sum_le, sum_split}
use Rattle.task_sheet.specs.Sheets.{task_at}
use Rattle.policy.specs.declared.keys.Key.{Key}
use Rattle.policy.specs.Keys.{key_le}
use Rattle.policy.specs.PolicyLaws.{Admits}
use Rattle.policy.proofs.KeyFacts.{key_le_refl, key_le_trans}
use Rattle.preemption.specs.CutLaws.{IsLawfulCut}
use Rattle.run_model.specs.declared.run.Tick.TheVariants.{Runs}
use Rattle.run_model.specs.Runs.{job_at, tick_at, service_of}
use Rattle.run_model.proofs.ServiceFacts.{service_le, same_job, not_off}
use Rattle.schedule_laws.specs.Compliance.{can_cut}
use Rattle.demand.specs.Demand.{rest_of, own_of, others_of, blocking_of, need_of, other_of}
use Rattle.busy_window.specs.Busy.{IsUpSet, IsQuiet, IsBusy}
use Rattle.demand.specs.Meeting.{CoversJitter, MeetsEnd, MeetsBound}
use Rattle.abstract_rta.proofs.Setting.{Setting, ran, in_order, of_sheet, timely, fit_of, jitter_of, demand_in, segment_of}
use Rattle.abstract_rta.proofs.Quiet.{IsLate, still_pending}
use Rattle.abstract_rta.proofs.Service.{inside_since, supply_served}
use Rattle.abstract_rta.proofs.Caps.{cap_window, admitted, masked, most_at}
use Rattle.abstract_rta.proofs.Windows.{in_window, begins, window_from, windows_demand, demand_gap, window_length}

-- the job j of task i, which is released a ticks after the begin s of its stretch
pub record IsTarget (g : Setting) (i j s a : ℕ) : Type 0 where
  pub in_range : i < length g.sheet.tasks
  pub listed : j < length g.run.jobs
  pub is_i : (job_at g.run j).task ≡ i
  pub released : (job_at g.run j).release ≡ s + a

-- the jobs at least as urgent as j
unfoldable pub urgent : Setting → ℕ → ℕ → Bool
urgent g j k = key_le (g.p.key g.sheet (job_at g.run k)) (g.p.key g.sheet (job_at g.run j))

module _ (g : Setting) (i j s a x : ℕ) (target : IsTarget g i j s a) where
  urgent_up : IsUpSet g.p g.sheet g.run (urgent g j)
  unfolding urgent
  urgent_up = λ k n b c h e.
      let key : ℕ → Key = λ w. g.p.key g.sheet (job_at g.run w) in
      key_le_trans (key k) (key n) (key j) h e

  own_window : ℕ
  own_window = a + 1 + jitter_of g i

  urgent_window : ℕ → ℕ
  urgent_window o = cond (o == i) own_window (cap_window (g.p.cap g.sheet i o a) (jitter_of g o) x)

  -- a job of task i that was released before s is as urgent as j:
  -- else it would arrive after j, and so be released no earlier than j
  early_urgent : (k : ℕ) → k < length g.run.jobs → (job_at g.run k).task ≡ i → (job_at g.run k).release < s →
      urgent g j k ≡ true
  unfolding urgent
  early_urgent k b t h =
      let same : (job_at g.run k).task ≡ (job_at g.run j).task = t ∙ sym target.is_i in
      elim (cases_lt (job_at g.run j).arrival (job_at g.run k).arrival) [
        | inl later ↦
            let after = (g.ok.valid.releases k b).order j target.listed (sym same) later in
            absurd (omega (arith, after, target.released))
        | inr no_later ↦
            g.laws.policy.in_order (job_at g.run k) (job_at g.run j) (of_sheet g k b) (of_sheet g j target.listed) same no_later
      ]

  -- what runs outside is of a task that may block
  block_bound : (k : ℕ) → k < length g.run.jobs → urgent g j k ≡ false → (job_at g.run k).release < s →
      segment_of g k - 1 ≤ blocking_of g.p g.m g.sheet i a
  unfolding urgent blocking_of
  block_bound k b o h =
      let task = (job_at g.run k).task in
      let other : task ≡ i → ⊥ = λ e. let t = early_urgent k b e h in absurd (cc) in
      let blocks = g.laws.policy.blocks s a (job_at g.run k) (job_at g.run j) (of_sheet g k b) (of_sheet g j target.listed)
      (timely g k b) (timely g j target.listed) (λ e. other (e ∙ target.is_i)) target.released h o in
      let may : ℕ → Bool = λ o. not (o == i) && g.p.may_block g.sheet i o a in
      most_at may (λ o. g.m.longest (task_at g.sheet o) - 1) (length g.sheet.tasks) task (of_sheet g k b)
      (and_from _ _ (ap not (ne_eqb task i other)) (subst (λ w. g.p.may_block g.sheet w task a ≡ true) target.is_i blocks))

  -- until j is done, some job as urgent is pending
  urgent_stretch : (u : ℕ) → s ≤ u → u ≤ length g.run.ticks → s + a ≤ length g.run.ticks → IsQuiet g.run (urgent g j) s →
      ((v : ℕ) → s < v → v ≤ s + a → IsLate g.run (urgent g j) v) → service_of g.run j u < (job_at g.run j).cost →
      IsBusy g.run (urgent g j) s u
  unfolding urgent
  urgent_stretch u from long l quiet late less = record {
    order = from;
    long = long;
    quiet = quiet;
    busy = λ v b c. elim (cases_lt v (s + a)) [
      | inl before ↦ still_pending g.run (urgent g j) v (omega arith) (late (suc v) (omega arith) (omega arith))
      | inr after ↦ record {
        job = j;
        inside = key_le_refl (g.p.key g.sheet (job_at g.run j));
        pending = record {
          listed = target.listed;
          released = omega (arith, target.released);
          not_done = omega (arith, less, service_le g.run j v u (omega arith) long);
        };
      }
    ];
  }

  -- what runs of the set in the stretch arrives in its task's window
  in_its_window : (u v k : ℕ) → IsBusy g.run (urgent g j) s u → service_of g.run j u < (job_at g.run j).cost →
      s ≤ v → v < u → tick_at g.run v ≡ Runs k → urgent g j k ≡ true → (k ≢ j → v < s + x) →
      in_window urgent_window (begins g s) g.run k ≡ true
  unfolding urgent urgent_window own_window
  in_its_window u v k stretch less b c r t only_early =
      let long : v < length g.run.ticks = omega (arith, stretch.long) in
      let p = ran g v k long r in
      let since = inside_since g (urgent g j) s u stretch v k b c r t in
      let task = (job_at g.run k).task in
      let window_if : Bool → ℕ = λ w. cond w own_window (cap_window (g.p.cap g.sheet i task a) (jitter_of g task) x) in
      window_from g urgent_window s k p.listed since (elim (cases_eq task i) [
        | inl e ↦ elim (cases_lt (job_at g.run k).arrival (begins g s i + own_window)) [
          | inl h ↦ omega (arith, h, ap (begins g s) e, ap window_if (eq-eqb task i e))
          | inr h ↦
              let earlier : (job_at g.run j).arrival < (job_at g.run k).arrival =
              omega (arith, h, target.released, (timely g j target.listed).after) in
              let done = in_order g v k j long r target.listed (target.is_i ∙ sym e) earlier in
              absurd (omega (arith, done, less, service_le g.run j v u (omega arith) stretch.long))
        ]
        | inr ne ↦
            let capped = g.laws.policy.capped s a (job_at g.run k) (job_at g.run j)
            (of_sheet g k p.listed) (of_sheet g j target.listed) (timely g k p.listed) (timely g j target.listed)
            (λ e. ne (e ∙ target.is_i)) target.released since t in
            let arrival = (job_at g.run k).arrival in
            let admits : Admits (g.p.cap g.sheet i task a) s (arrival + jitter_of g task) =
            subst (λ w. Admits (g.p.cap g.sheet w task a) s (arrival + jitter_of g task)) target.is_i capped in
            let soon : v < s + x = only_early (λ e. ne (ap (λ (w : ℕ). (job_at g.run w).task) e ∙ target.is_i)) in
            let after : s ≤ arrival + jitter_of g task = omega (arith, since, (timely g k p.listed).soon) in
            let before : arrival < s + x = omega (arith, p.released, (timely g k p.listed).after, soon) in
            let early = admitted (g.p.cap g.sheet i task a) s (jitter_of g task) arrival x admits after before in
            omega (arith, early, ap window_if (ne_eqb task i ne))
      ])

  other_demand : (o : ℕ) → o < length g.sheet.tasks →
      cond (o == i) 0 (demand_in g o (urgent_window o)) ≤ other_of g.p g.sheet i a x o
  unfolding urgent_window
  other_demand o b =
      let task = task_at g.sheet o in
      masked (o == i) task.curve (g.laws.valid.each o b).curve task.cost own_window (jitter_of g o) x (g.p.cap g.sheet i o a)

  urgent_demand : windows_demand g urgent_window ≤ demand_in g i own_window + others_of g.p g.sheet i a x
  unfolding urgent_window others_of
  urgent_demand =
      let f : ℕ → ℕ = λ o. demand_in g o (urgent_window o) in
      let cap : ℕ = cap_window (g.p.cap g.sheet i i a) (jitter_of g i) x in
      omega (
        arith,
        sum_split f (length g.sheet.tasks) i target.in_range,
        sum_le _ _ (length g.sheet.tasks) other_demand,
        ap (λ (w : Bool). demand_in g i (cond w own_window cap)) (eq-eqb i i refl),
      )

  -- the supply of the stretch, and what j lacks, are at most the demand
  supply_used : (u gap : ℕ) → IsBusy g.run (urgent g j) s u → service_of g.run j u < (job_at g.run j).cost →
      ((v k : ℕ) → s ≤ v → v < u → tick_at g.run v ≡ Runs k → k ≢ j → v < s + x) →
      service_of g.run j u + gap ≤ (task_at g.sheet i).cost →
      g.sbf (u - s) + gap ≤ blocking_of g.p g.m g.sheet i a + demand_in g i own_window + others_of g.p g.sheet i a x
  unfolding urgent urgent_window own_window
  supply_used u gap stretch less early lacks =
      let enough = supply_served g (urgent g j) s u urgent_up stretch (in_window urgent_window (begins g s) g.run)
      (λ v k b c r t. in_its_window u v k stretch less b c r t (λ ne. early v k b c r ne))
      (blocking_of g.p g.m g.sheet i a) block_bound in
      let task = (job_at g.run j).task in
      let window_if : Bool → ℕ = λ w. cond w own_window (cap_window (g.p.cap g.sheet i task a) (jitter_of g task) x) in
      let after = (timely g j target.listed).after in
      let of_i = ap window_if (eq-eqb task i target.is_i) in
      let window = window_from g urgent_window s j target.listed (omega (arith, target.released))
      (omega (arith, target.released, after, ap (begins g s) target.is_i, of_i)) in
      let within = subst (λ w. service_of g.run j u + gap ≤ (task_at g.sheet w).cost) (sym target.is_i) lacks in
      let demand = demand_gap g urgent_window (begins g s) u j gap stretch.long target.listed window within in
      omega (arith, enough, demand, urgent_demand)

  laws : IsLawfulCut g.m (task_at g.sheet i)
  laws = g.laws.cut i target.in_range

  fits : g.m.fits (task_at g.sheet i) (job_at g.run j) ≡ true
  fits = subst (λ w. g.m.fits (task_at g.sheet w) (job_at g.run j) ≡ true) target.is_i (fit_of g j target.listed)

  -- at the end x the job has its threshold, if it is not done
  at_end : MeetsEnd g.p g.m g.sbf g.sheet i a x → IsBusy g.run (urgent g j) s (s + x) →
      service_of g.run j (s + x) < (job_at g.run j).cost →
      g.m.threshold (task_at g.sheet i) ≤ service_of g.run j (s + x)
  unfolding need_of own_of own_window
  at_end meets stretch less = elim (cases_lt (service_of g.run j (s + x)) (g.m.threshold (task_at g.sheet i))) [
    | inr reached ↦ reached
    | inl below ↦
        let gap = suc (rest_of g.m g.sheet i) in
        let used = supply_used (s + x) gap stretch less (λ v k b c r ne. c) (omega (arith, below, laws.threshold_bound)) in
        absurd (omega (arith, used, meets.enough, ap g.sbf (window_length s x)))
  ]

  -- from its threshold on the job is not cut
  last_part : (v k : ℕ) → v < length g.run.ticks → g.m.threshold (task_at g.sheet i) ≤ service_of g.run j v →
      service_of g.run j v < (job_at g.run j).cost → tick_at g.run v ≡ Runs k → k ≡ j
  last_part v k long reached less r =
      let uncut = laws.last_part (job_at g.run j) (service_of g.run j v) fits reached less in
      let cut_as : ℕ → Bool = λ w. g.m.cuttable (task_at g.sheet w) (job_at g.run j) (service_of g.run j v) in
      let f : can_cut g.m g.sheet g.run j v ≡ false = subst (λ w. cut_as w ≡ false) (sym target.is_i) uncut in
      same_job k j (tick_at g.run v) r (g.ok.segments v j long target.listed (not_off k (tick_at g.run v) r) f)

  -- so it is done by its bound, counted from the earliest arrival that its release allows
  pub in_time : (bound : ℕ) → CoversJitter g.sheet i bound →
      MeetsEnd g.p g.m g.sbf g.sheet i a x → MeetsBound g.p g.m g.sbf g.sheet i a x bound →
      s + (a + bound - jitter_of g i) ≤ length g.run.ticks →
      IsQuiet g.run (urgent g j) s → ((v : ℕ) → s < v → v ≤ s + a → IsLate g.run (urgent g j) v) →
      service_of g.run j (s + (a + bound - jitter_of g i)) < (job_at g.run j).cost → ⊥
  unfolding need_of own_of own_window
  in_time bound covers end within long quiet late less =
      let u = s + (a + bound - jitter_of g i) in
      let at_x : service_of g.run j (s + x) < (job_at g.run j).cost =
      omega (arith, less, service_le g.run j (s + x) u (omega (arith, within.end)) long) in
      let so_far = urgent_stretch (s + x) (omega arith) (omega (arith, within.end)) (omega (arith, covers)) quiet late at_x in
      let reached = at_end end so_far at_x in
      let stretch = urgent_stretch u (omega arith) long (omega (arith, covers)) quiet late less in
      let early : (v k : ℕ) → s ≤ v → v < u → tick_at g.run v ≡ Runs k → k ≢ j → v < s + x =
      λ v k b c r ne. elim (cases_lt v (s + x)) [
        | inl l ↦ l
        | inr l ↦
            let had : g.m.threshold (task_at g.sheet i) ≤ service_of g.run j v =
            omega (arith, reached, service_le g.run j (s + x) v l (omega arith)) in
            let lacks : service_of g.run j v < (job_at g.run j).cost =
            omega (arith, less, service_le g.run j v u (omega arith) long) in
            absurd (ne (last_part v k (omega arith) had lacks r))
      ] in
      let used = supply_used u 1 stretch less early (omega (arith, less, laws.cost_bound (job_at g.run j) fits)) in
      omega (arith, used, within.enough, ap g.sbf (window_length s (a + bound - jitter_of g i)))
