-- What the simulation keeps, over one more job and one more tick.
use Rattle.std.proofs.Common.{◌≡◌, ◌≢◌, ℕ, suc, ◌+◌, ◌-◌, ◌<◌, ◌≤◌, Bool, true, false, cond, List, [], ◌∷◌, ◌++◌, length, Option, Some, None, refl}
use Rattle.std.proofs.Common.{sym, ◌∙◌, ap, subst, inl, inr, arith}
use Rattle.std.specs.Global.{Vec}
use Rattle.std.specs.BTreeMap.{BTreeMap}
use Rattle.std.specs.BTreeSet.{BTreeSet}
use Rattle.std.proofs.Math.ListN.{set}
use Rattle.std.proofs.lemmas.Bool.{cases_Bool, cases_lt, cases_eq, ne_eqb, eq-eqb}
use Rattle.std.proofs.lemmas.Bool.Decides.{nat_tests}
use Rattle.std.proofs.lemmas.List.{get_or_append_left, get_or_at, get_or-set_same, get_or-set_other, length-set}
use Rattle.lists.specs.Searches.{OnlyFails}
use Rattle.lists.proofs.SearchFacts.{only_same, first_failing, first_none, first_some}
use Rattle.task_sheet.specs.SheetParts.{SheetParts}
use Rattle.task_sheet.specs.Sheets.{task_at}
use Rattle.task_sheet.specs.declared.tasks.Job.{Job}
use Rattle.policy.specs.PolicyMeaning.{PolicyMeaning}
use Rattle.preemption.specs.CutMeaning.{CutMeaning}
use Rattle.run_model.specs.declared.run.Run.{Run}
use Rattle.run_model.specs.declared.run.Tick.{Tick}
use Rattle.run_model.specs.declared.run.Tick.TheVariants.{Runs}
use Rattle.run_model.specs.Runs.{job_at, tick_at, runs, service_of}
use Rattle.run_text.specs.Text.{segments_of}
use Rattle.schedule_laws.specs.Compliance.{can_cut}
use Rattle.simulated_run.specs.SimulatedRun.{World, with_job, with_tick, inside_segment}
use Rattle.simulated_run.proofs.GrowthFacts.{length_more}
use Rattle.simulated_run.proofs.RunFacts.{job_kept, job_new, jobs_more, tick_kept, tick_new, ticks_more, service_new, service_unlisted}
use Rattle.urgency.specs.declared.rank.Rank.{Rank}
use Rattle.simulator.specs.declared.simulation.Due.{Due}
use Rattle.urgency.specs.Ranks.{rank_at}
use Rattle.simulator.specs.SimulationState.{IsQueue, IsTakenUp, left_at, release_at, IsKnown, IsKeptAt, IsKeptBy, CanRun}
use Rattle.simulator.proofs.LimitFacts.{within_more}
use Rattle.simulator.proofs.QueueFacts.{queue_push, Tells}

-- the job inside a segment

only_more : (cut new : ℕ → Bool) (n m : ℕ) (x : Option ℕ) → m ≡ suc n → ((k : ℕ) → k < n → new k ≡ cut k) →
    new n ≡ true → OnlyFails cut n x → OnlyFails new m x
only_more cut new n m None e same last h = λ k b. elim (cases_lt k n) [
  | inl c ↦ same k c ∙ h k c
  | inr c ↦ let at : n ≡ k = omega arith in subst (λ w. new w ≡ true) at last
]
only_more cut new n m (Some j) e same last h = (
  (let b = h.0 in omega arith),
  same j h.0 ∙ h.1,
  (λ k b ne. elim (cases_lt k n) [
    | inl c ↦ same k c ∙ h.2 k c ne
    | inr c ↦ let at : n ≡ k = omega arith in subst (λ w. new w ≡ true) at last
  ]),
)

others_cut : (cut : ℕ → Bool) (n : ℕ) (x : Option ℕ) (j k : ℕ) → OnlyFails cut n x → CanRun x j → k < n → k ≢ j → cut k ≡ true
others_cut cut n None j k h can b ne = h k b
others_cut cut n (Some i) j k h can b ne = h.2 k b (λ e. ne (e ∙ sym can))

-- where job j ran, at most j is inside a segment
only_ran : (cut new : ℕ → Bool) (n j : ℕ) (x : Option ℕ) → j < n → CanRun x j →
    ((k : ℕ) → k < n → k ≢ j → new k ≡ cut k) → OnlyFails cut n x → OnlyFails new n (cond (new j) None (Some j))
only_ran cut new n j x b can same h = elim (cases_Bool (new j)) [
  | inl e ↦
      subst (λ (w : Bool). OnlyFails new n (cond w None (Some j))) (sym e)
      (λ k c. elim (cases_eq k j) [ inl at ↦ subst (λ w. new w ≡ true) (sym at) e | inr ne ↦ same k c ne ∙ others_cut cut n x j k h can c ne ])
  | inr e ↦ subst (λ (w : Bool). OnlyFails new n (cond w None (Some j))) (sym e) (b, e, (λ k c ne. same k c ne ∙ others_cut cut n x j k h can c ne))
]

-- the search finds the same job
only_first : (cut : ℕ → Bool) (n : ℕ) (x : Option ℕ) → OnlyFails cut n x → first_failing cut n ≡ x
only_first cut n None h = first_none cut n h
only_first cut n (Some j) h = first_some cut j n h.0 h.1 (λ k b. h.2 k (let c = h.0 in omega arith) (λ e. omega arith))

only_listed : (cut : ℕ → Bool) (n : ℕ) (x : Option ℕ) (k : ℕ) → OnlyFails cut n x → x ≡ Some k → k < n
only_listed cut n None k h e = absurd (cc)
only_listed cut n (Some j) k h e = let same : j ≡ k = cc in subst (λ i. i < n) same h.0

-- the job that may go on is the one that ran
uncut_is : (cut : Bool) (j k : ℕ) → cond cut None (Some j) ≡ Some k → j ≡ k
uncut_is true j k e = absurd (cc)
uncut_is false j k e = cc

module _ (p : PolicyMeaning) (m : CutMeaning) (sheet : SheetParts) (t : ℕ) (run : Run) (left : List ℕ) (queue : BTreeMap Rank ℕ) (coming : BTreeSet Due)
    (x : Option ℕ) (kept : IsKeptAt p m sheet t (suc t) (suc t) run left queue coming x) where
  pub kept_tells : Tells run left t
  kept_tells = record {
    waits = λ k b released pos. (let a = kept.amounts k b in grind (arith, nat_tests));
    over = λ k b pos. (let a = kept.amounts k b in grind (arith, nat_tests));
  }

  unserved : (k : ℕ) → length run.jobs ≤ k → service_of run k t ≡ 0
  unserved k h = service_unlisted run (length run.jobs) k t (omega (arith, kept.now)) (λ u i b e. kept.listed u i b e) h

  pub kept_job : (after : BTreeMap Rank ℕ) (then : BTreeSet Due) (j : Job) (n : ℕ) → n ≡ length run.jobs → IsKnown m sheet t j → 1 ≤ j.cost →
      m.cuttable (task_at sheet j.task) j 0 ≡ true → length run.jobs < 20000 →
      segments_of run.jobs + length j.segs ≤ 1000000
      → IsTakenUp t (rank_at p sheet j n) (record { release = j.release; number = n }) queue after coming then →
      IsKeptAt p m sheet t (suc t) (suc t) (with_job run j) (left ++ j.cost ∷ []) after then x
  unfolding with_job service_of
  kept_job after then j n len known pos cut few short up = record {
    now = kept.now;
    known = λ k b. elim (cases_lt k (length run.jobs)) [
      | inl c ↦ subst (λ (v : Job). IsKnown m sheet t v) (sym (job_kept run j k c)) (kept.known k c)
      | inr c ↦
          let at : length run.jobs ≡ k = omega (arith, jobs_more run j) in
          subst (λ i. IsKnown m sheet t (job_at (with_job run j) i)) at
          (subst (λ (v : Job). IsKnown m sheet t v) (sym (job_new run j (length run.jobs) refl)) known)
    ];
    listed = λ u k b e. omega (arith, kept.listed u k b e, jobs_more run j);
    lefts = omega (arith, jobs_more run j, length_more left j.cost, kept.lefts);
    amounts = λ k b. elim (cases_lt k (length run.jobs)) [
      | inl c ↦ omega (
        arith,
        kept.amounts k c,
        get_or_append_left left (j.cost ∷ []) 0 k (omega (arith, kept.lefts)),
        ap (λ (v : Job). v.cost) (job_kept run j k c),
      )
      | inr c ↦
          let at : length run.jobs ≡ k = omega (arith, jobs_more run j) in
          omega (
            arith,
            ap (λ (v : Job). v.cost) (job_new run j (length run.jobs) refl),
            ap (λ i. (job_at (with_job run j) i).cost) at,
            ap (λ i. left_at (left ++ j.cost ∷ []) i) at,
            get_or_at left j.cost [] 0 (length run.jobs) kept.lefts,
            unserved k (omega arith),
          )
    ];
    waiting = queue_push p sheet run.jobs left t queue after coming then j j.cost n (sym len) (omega (arith, kept.lefts)) pos kept.waiting up;
    segment = only_more (λ k. can_cut m sheet run k t) (λ k. can_cut m sheet (with_job run j) k t) (length run.jobs)
        (length (with_job run j).jobs) x (jobs_more run j)
        (λ k b. ap (λ (v : Job). m.cuttable (task_at sheet v.task) v (service_of run k t)) (job_kept run j k b))
        (ap (λ (v : Job). m.cuttable (task_at sheet v.task) v (service_of run (length run.jobs) t))
        (job_new run j (length run.jobs) refl) ∙
        (ap (m.cuttable (task_at sheet j.task) j) (unserved (length run.jobs) (omega arith)) ∙ cut))
        kept.segment;
    begun = λ k e. omega (
      arith,
      kept.begun k e,
      ap (λ (v : Job). v.release) (job_kept run j k (only_listed (λ i. can_cut m sheet run i t) (length run.jobs) x k kept.segment e)),
    );
    within = within_more run.jobs j kept.within few short;
  }

  later : (k : ℕ) → k < length run.jobs → IsKnown m sheet (suc t) (job_at run k)
  later k b = let h = kept.known k b in record { task = h.task; arrived = omega (arith, h.arrived); cost = h.cost; fits = h.fits; floats = h.floats }

  listed_then : (y : Tick) → ((k : ℕ) → y ≡ Runs k → k < length run.jobs) → (u k : ℕ) → u < suc t → tick_at (with_tick run y) u ≡ Runs k → k < length run.jobs
  listed_then y listed u k b e = elim (cases_lt u t) [
    | inl c ↦ kept.listed u k c (sym (tick_kept run y u (omega (arith, kept.now))) ∙ e)
    | inr c ↦ let at : t ≡ u = omega arith in listed k (sym (tick_new run y t kept.now) ∙ (ap (tick_at (with_tick run y)) at ∙ e))
  ]

  -- a tick that runs no job
  pub kept_tick : (y : Tick) → ((k : ℕ) → runs k y ≡ false) → ((k : ℕ) → y ≢ Runs k) →
      IsKeptAt p m sheet (suc t) (suc t) (suc t) (with_tick run y) left queue coming x
  unfolding with_tick
  kept_tick y quiet ne =
      let same : (k : ℕ) → service_of (with_tick run y) k (suc t) ≡ service_of run k t =
      λ k. omega (arith, service_new run y k t kept.now, ap (λ (b : Bool). cond {A = ℕ} b 1 0) (quiet k)) in
      record {
        now = omega (arith, ticks_more run y, kept.now);
        known = later;
        listed = listed_then y (λ k e. absurd (ne k e));
        lefts = kept.lefts;
        amounts = λ k b. omega (arith, kept.amounts k b, same k);
        waiting = kept.waiting;
        segment =
            only_same (λ k. can_cut m sheet run k t) (λ k. can_cut m sheet (with_tick run y) k (suc t)) (length run.jobs) x
            (λ k b. ap (m.cuttable (task_at sheet (job_at run k).task) (job_at run k)) (same k)) kept.segment;
        begun = kept.begun;
        within = kept.within;
      }

  -- a tick that runs j
  pub kept_run : (j rest : ℕ) (after : BTreeMap Rank ℕ) (cut : Bool) → j < length run.jobs → CanRun x j →
      release_at run.jobs j < suc t → left_at left j ≡ suc rest →
      IsQueue p sheet run.jobs (set left j rest) (suc t) (suc t) after coming →
      cut ≡ m.cuttable (task_at sheet (job_at run j).task) (job_at run j) ((job_at run j).cost - rest)
      → IsKeptAt p m sheet (suc t) (suc t) (suc t) (with_tick run (Runs j)) (set left j rest) after coming (cond cut None (Some j))
  unfolding with_tick
  kept_run j rest after cut b can released amount waiting is_cut =
      let here : service_of (with_tick run (Runs j)) j (suc t) ≡ suc (service_of run j t) =
      omega (arith, service_new run (Runs j) j t kept.now, ap (λ (b : Bool). cond {A = ℕ} b 1 0) (eq-eqb j j refl)) in
      let other : (k : ℕ) → k ≢ j → service_of (with_tick run (Runs j)) k (suc t) ≡ service_of run k t =
      λ k ne. omega
      (arith, service_new run (Runs j) k t kept.now, ap (λ (b : Bool). cond {A = ℕ} b 1 0) (ne_eqb j k (λ e. ne (sym e)))) in
      let given : (job_at run j).cost - rest ≡ service_of (with_tick run (Runs j)) j (suc t) = omega (arith, kept.amounts j b, here) in
      let new_cut : can_cut m sheet (with_tick run (Runs j)) j (suc t) ≡ cut =
      ap (m.cuttable (task_at sheet (job_at run j).task) (job_at run j)) (sym given) ∙ sym is_cut in
      record {
        now = omega (arith, ticks_more run (Runs j), kept.now);
        known = later;
        listed = listed_then (Runs j) (λ k e. (let is_j : j ≡ k = cc in omega arith));
        lefts = omega (arith, length-set left j rest, kept.lefts);
        amounts = λ k c. elim (cases_eq k j) [
          | inl e ↦
              omega (
                arith,
                kept.amounts j b,
                here,
                get_or-set_same left j rest 0 (omega (arith, kept.lefts)),
                ap (λ i. left_at (set left j rest) i) e,
                ap (λ i. service_of (with_tick run (Runs j)) i (suc t)) e,
                ap (λ i. (job_at run i).cost) e,
              )
          | inr ne ↦ omega (arith, kept.amounts k c, other k ne, get_or-set_other left j k rest 0 ne)
        ];
        waiting = waiting;
        segment = subst (λ (v : Bool). OnlyFails (λ k. can_cut m sheet (with_tick run (Runs j)) k (suc t)) (length run.jobs) (cond v None (Some j))) new_cut
            (only_ran (λ k. can_cut m sheet run k t) (λ k. can_cut m sheet (with_tick run (Runs j)) k (suc t)) (length run.jobs) j
            x b can (λ k c ne. ap (m.cuttable (task_at sheet (job_at run k).task) (job_at run k)) (other k ne)) kept.segment);
        begun = λ k e. subst (λ i. release_at run.jobs i < suc t) (uncut_is cut j k e) released;
        within = kept.within;
      }

-- the definition finds the job that the simulation has inside a segment
pub kept_inside : (w : World) (t : ℕ) (run : Run) (left : List ℕ) (queue : BTreeMap Rank ℕ) (coming : BTreeSet Due) (x : Option ℕ) →
    IsKeptAt w.policy w.cuts w.sheet t (suc t) (suc t) run left queue coming x → inside_segment w run t ≡ x
unfolding inside_segment
kept_inside w t run left queue coming x kept = only_first (λ k. can_cut w.cuts w.sheet run k t) (length run.jobs) x kept.segment

-- with other jobs in the queue
pub kept_waiting : (p : PolicyMeaning) (m : CutMeaning) (sheet : SheetParts) (t u v u' v' : ℕ) (run : Run) (left : List ℕ)
    (queue queue' : BTreeMap Rank ℕ) (coming coming' : BTreeSet Due)
    (x : Option ℕ) (total : ℕ) (lists : List (Vec ℕ)) (releases sums : List ℕ) →
    IsKeptBy p m sheet t u v run left queue coming x total lists releases sums → u ≤ u' → IsQueue p sheet run.jobs left u' v' queue' coming' →
    IsKeptBy p m sheet t u' v' run left queue' coming' x total lists releases sums
kept_waiting p m sheet t u v u' v' run left queue queue' coming coming' x total lists releases sums kept more waiting = record {
  jobs = record {
    now = kept.jobs.now;
    known = kept.jobs.known;
    listed = kept.jobs.listed;
    lefts = kept.jobs.lefts;
    amounts = kept.jobs.amounts;
    waiting = waiting;
    segment = kept.jobs.segment;
    begun = λ k e. omega (arith, kept.jobs.begun k e, more);
    within = kept.jobs.within;
  };
  segments = kept.segments;
  arrivals = kept.arrivals;
  releases = kept.releases;
  counts = kept.counts;
}
