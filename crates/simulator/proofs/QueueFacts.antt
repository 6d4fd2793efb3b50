-- The queue of the jobs that are released and not done, and those to come.
use Rattle.std.proofs.Common.{◌≡◌, ◌≢◌, ℕ, suc, ◌<◌, ◌≤◌, Bool, true, false, cond, List, [], ◌∷◌, ◌++◌, length, Some, None, IsSome, refl, sym, ◌∙◌}
use Rattle.std.proofs.Common.{ap, subst, inl, inr, arith, get_or}
use Rattle.std.specs.declared.cmp.Ordering.{Ordering}
use Rattle.std.specs.declared.cmp.Ordering.TheVariants.{Less, Equal, Greater}
use Rattle.std.specs.Ordering.{is_gt, is_lt, nat_cmp, ordering_then, ordering_reverse}
use Rattle.std.specs.BTreeMap.{BTreeMap, get, Updates, IsLowerBound, is_at}
use Rattle.std.specs.BTreeSet.{BTreeSet, contains, Updates as UpdatesDue, IsLowerBound as FirstKey}
use Rattle.std.specs.Map.{lookup}
use Rattle.std.specs.Option.{is_some}
use Rattle.std.proofs.Math.ListN.{set}
use Rattle.std.proofs.lemmas.Bool.{cases_Bool, cases_lt, cases_eq}
use Rattle.std.proofs.lemmas.Bool.Decides.{nat_tests}
use Rattle.std.proofs.lemmas.List.{get_or_append_left, get_or_at, get_or-set_same, get_or-set_other, nil_from_length}
use Rattle.lists.proofs.SearchFacts.{best_some, best_none}
use Rattle.task_sheet.specs.SheetParts.{SheetParts}
use Rattle.task_sheet.specs.declared.tasks.Job.{Job}
use Rattle.policy.specs.PolicyMeaning.{PolicyMeaning}
use Rattle.run_model.specs.declared.run.Run.{Run}
use Rattle.run_model.specs.Runs.{no_job, job_at, is_pending}
use Rattle.run_model.proofs.PendingFacts.{pending_from}
use Rattle.simulated_run.specs.SimulatedRun.{World, most_urgent, comes_before}
use Rattle.simulated_run.proofs.GrowthFacts.{length_more}
use Rattle.simulated_run.proofs.OrderFacts.{comes_before_is}
use Rattle.urgency.specs.declared.rank.Rank.{Rank}
use Rattle.simulator.specs.declared.simulation.Due.{Due}
use Rattle.urgency.specs.Ranks.{rank_at, rank_of, rank_cmp}
use Rattle.simulator.specs.Dues.{due_of, due_cmp}
use Rattle.simulator.specs.SimulationState.{IsEntry, IsToCome, IsQueue, IsTakenUp, IsTakenOut, NoneIsDue, left_at, release_at}
use Rattle.urgency.proofs.RankFacts.{rank_total, eq_tells, then_equal, equal_nat, same_rank, same_entry, itself, apart}

-- ranks

by_order : (o p : Ordering) → is_gt o ≡ false → o ≢ Equal → p ≡ ordering_reverse o → (is_lt o ≡ true) × (is_lt p ≡ false)
by_order Less p g ne e = (refl, ap is_lt e)
by_order Equal p g ne e = absurd (ne refl)
by_order Greater p g ne e = absurd (cc)

before : (a b : Rank) → is_gt (rank_cmp a b) ≡ false → a.number ≢ b.number → (is_lt (rank_cmp a b) ≡ true) × (is_lt (rank_cmp b a) ≡ false)
before a b g ne = by_order (rank_cmp a b) (rank_cmp b a) g (λ e. ne (ap (λ (q : Rank). q.number) (same_rank a b e))) (rank_total.antisymm b a)

-- entries of the jobs to come

due_by_parts : (a b c d : ℕ) → a ≡ c → b ≡ d → (let e : Due = record { release = a; number = b } in e) ≡ record { release = c; number = d }
due_by_parts a b c d e f = cc

same_due : (a b : Due) → is_at (due_cmp a) b ≡ true → a ≡ b
same_due a b h =
    let parts = then_equal (nat_cmp a.release b.release) _ (eq_tells (due_cmp a b) h) in
    due_by_parts _ _ _ _ (equal_nat _ _ parts.0) (equal_nat _ _ parts.1)

-- other numbers, other entries
due_apart : (d e : Due) → d.number ≢ e.number → is_at (due_cmp d) e ≡ false
due_apart d e ne = elim (cases_Bool (is_at (due_cmp d) e)) [ inr f ↦ f | inl same ↦ absurd (ne (ap (λ (x : Due). x.number) (same_due d e same))) ]

-- what was not put in, or taken out, is as it was
due_stays : (coming after : BTreeSet Due) (d e : Due) (b : Bool) → UpdatesDue due_cmp coming after d b → d.number ≢ e.number →
    contains due_cmp after e ≡ contains due_cmp coming e
due_stays coming after d e b up ne = up.2 e (due_apart d e ne)

release_le : (a b : ℕ) (r : Ordering) → is_gt (ordering_then (nat_cmp a b) r) ≡ false → a ≤ b
release_le a b r h = grind (arith, nat_tests)

-- where the first job to come is released later, all are
pub none_due : (t : ℕ) (coming : BTreeSet Due) (d : Due) → FirstKey due_cmp coming d → t < d.release → NoneIsDue t coming
none_due t coming d least h q there = omega (arith, release_le d.release q.release _ (least q there), h)

module _ (p : PolicyMeaning) (sheet : SheetParts) where
  rank_kept : (jobs : List Job) (j : Job) (k : ℕ) → k < length jobs → rank_of p sheet (jobs ++ j ∷ []) k ≡ rank_of p sheet jobs k
  rank_kept jobs j k h = ap (λ (x : Job). rank_at p sheet x k) (get_or_append_left jobs (j ∷ []) no_job k h)

  due_kept : (jobs : List Job) (j : Job) (k : ℕ) → k < length jobs → due_of (jobs ++ j ∷ []) k ≡ due_of jobs k
  due_kept jobs j k h = ap (λ (x : Job). (let d : Due = record { release = x.release; number = k } in d)) (get_or_append_left jobs (j ∷ []) no_job k h)

  release_kept : (jobs : List Job) (j : Job) (k : ℕ) → k < length jobs → release_at (jobs ++ j ∷ []) k ≡ release_at jobs k
  release_kept jobs j k h = ap (λ (x : Job). x.release) (get_or_append_left jobs (j ∷ []) no_job k h)

  -- a new job
  module _ (jobs : List Job) (left : List ℕ) (u v : ℕ) (queue queue' : BTreeMap Rank ℕ) (coming coming' : BTreeSet Due) (j : Job) (c n : ℕ)
      (lj : length jobs ≡ n) (ll : length left ≡ n) (pos : 0 < c) (q : IsQueue p sheet jobs left u v queue coming) where
    abbrev jobs' : List Job
    jobs' = jobs ++ j ∷ []

    abbrev left' : List ℕ
    left' = left ++ c ∷ []

    left_new : get_or left' n 0 ≡ c
    left_new = get_or_at left c [] 0 n ll

    job_new : get_or jobs' n no_job ≡ j
    job_new = get_or_at jobs j [] no_job n lj

    left_old : (k : ℕ) → k < n → get_or left' k 0 ≡ get_or left k 0
    left_old k h = get_or_append_left left (c ∷ []) 0 k (omega arith)

    old_entry : (s : Rank) (k : ℕ) → IsEntry p sheet jobs left u s k → IsEntry p sheet jobs' left' u s k
    old_entry s k old = record {
      listed = omega (arith, length_more jobs j, old.listed);
      waits = omega (arith, old.waits, left_old k (omega (arith, old.listed)));
      rank = old.rank ∙ sym (rank_kept jobs j k old.listed);
      released = omega (arith, old.released, release_kept jobs j k old.listed);
    }

    old_due : (d : Due) → IsToCome jobs left v d → IsToCome jobs' left' v d
    old_due d old = record {
      listed = omega (arith, length_more jobs j, old.listed);
      waits = omega (arith, old.waits, left_old d.number (omega (arith, old.listed)));
      release = old.release ∙ sym (release_kept jobs j d.number old.listed);
      later = old.later;
    }

    -- it is released
    push_queued : j.release < u → Updates rank_cmp queue queue' (rank_at p sheet j n) (Some n) → IsQueue p sheet jobs' left' u v queue' coming
    push_queued soon up =
        let r : Rank = rank_at p sheet j n in
        let of_new : r ≡ rank_of p sheet jobs' n = ap (λ (x : Job). rank_at p sheet x n) (sym job_new) in
        record {
          sound = λ s k h. elim (cases_Bool (is_at (rank_cmp r) s)) [
            | inl e ↦
                let got : get rank_cmp queue' s ≡ Some n = up.0 s ∙ ap (λ (b : Bool). cond b (Some n) (get rank_cmp queue s)) e in
                let is_k : n ≡ k = cc in
                let here : IsEntry p sheet jobs' left' u s n = record {
                  listed = omega (arith, length_more jobs j);
                  waits = omega (arith, left_new);
                  rank = sym (same_entry r s e) ∙ of_new;
                  released = omega (arith, soon, ap (λ (x : Job). x.release) job_new);
                } in
                subst (λ i. IsEntry p sheet jobs' left' u s i) is_k here
            | inr e ↦ old_entry s k (q.sound s k (sym (up.2 s e) ∙ h))
          ];
          due = λ d h. old_due d (q.due d h);
          complete = λ k h l. elim (cases_lt k n) [
            | inl b ↦ elim (q.complete k (omega arith) (omega (arith, l, left_old k b))) [
              | inl there ↦
                  let same : rank_of p sheet jobs' k ≡ rank_of p sheet jobs k = rank_kept jobs j k (omega arith) in
                  inl (ap (λ (x : Rank). get rank_cmp queue' x) same ∙ (up.2 (rank_of p sheet jobs k) (apart p sheet jobs r k (λ e. omega arith)) ∙ there))
              | inr there ↦ inr (ap (λ (x : Due). contains due_cmp coming x) (due_kept jobs j k (omega arith)) ∙ there)
            ]
            | inr b ↦
                let is_n : n ≡ k = omega (arith, length_more jobs j, h) in
                let got : get rank_cmp queue' (rank_of p sheet jobs' n) ≡ Some n = ap (λ (x : Rank). get rank_cmp queue' x) (sym of_new) ∙ up.1 in
                inl (subst (λ i. get rank_cmp queue' (rank_of p sheet jobs' i) ≡ Some i) is_n got)
          ];
        }

    abbrev own : Due
    own = record { release = j.release; number = n }

    -- it is to come
    push_coming : v ≤ j.release → UpdatesDue due_cmp coming coming' own true → IsQueue p sheet jobs' left' u v queue coming'
    push_coming late up =
        let of_new : own ≡ due_of jobs' n = ap (λ (x : Job). (let d : Due = record { release = x.release; number = n } in d)) (sym job_new) in
        record {
          sound = λ s k h. old_entry s k (q.sound s k h);
          due = λ d h. elim (cases_Bool (is_at (due_cmp own) d)) [
            | inl e ↦
                let here : IsToCome jobs' left' v own = record {
                  listed = omega (arith, length_more jobs j);
                  waits = omega (arith, left_new);
                  release = ap (λ (x : Job). x.release) (sym job_new);
                  later = late;
                } in
                subst (IsToCome jobs' left' v) (same_due own d e) here
            | inr e ↦ old_due d (q.due d (sym (up.2 d e) ∙ h))
          ];
          complete = λ k h l. elim (cases_lt k n) [
            | inl b ↦ elim (q.complete k (omega arith) (omega (arith, l, left_old k b))) [
              | inl there ↦ inl (ap (λ (x : Rank). get rank_cmp queue x) (rank_kept jobs j k (omega arith)) ∙ there)
              | inr there ↦
                  inr (ap (λ (x : Due). contains due_cmp coming' x) (due_kept jobs j k (omega arith))
                  ∙ (due_stays coming coming' own (due_of jobs k) true up (λ e. omega arith) ∙ there))
            ]
            | inr b ↦
                let is_n : n ≡ k = omega (arith, length_more jobs j, h) in
                let got : contains due_cmp coming' (due_of jobs' n) ≡ true = ap (λ (x : Due). contains due_cmp coming' x) (sym of_new) ∙ up.1 in
                inr (subst (λ i. contains due_cmp coming' (due_of jobs' i) ≡ true) is_n got)
          ];
        }

  pub queue_push : (jobs : List Job) (left : List ℕ) (t : ℕ) (queue queue' : BTreeMap Rank ℕ) (coming coming' : BTreeSet Due) (j : Job) (c n : ℕ) →
      length jobs ≡ n → length left ≡ n → 0 < c → IsQueue p sheet jobs left (suc t) (suc t) queue coming →
      IsTakenUp t (rank_at p sheet j n) (record { release = j.release; number = n }) queue queue' coming coming' →
      IsQueue p sheet (jobs ++ j ∷ []) (left ++ c ∷ []) (suc t) (suc t) queue' coming'
  queue_push jobs left t queue queue' coming coming' j c n lj ll pos q up = elim (cases_lt t j.release) [
    | inl late ↦
        subst (λ (x : BTreeMap Rank ℕ). IsQueue p sheet (jobs ++ j ∷ []) (left ++ c ∷ []) (suc t) (suc t) x coming') (sym (up.waits late))
        (push_coming jobs left (suc t) (suc t) queue queue' coming coming' j c n lj ll pos q late (up.comes late))
    | inr soon ↦
        subst (λ (x : BTreeSet Due). IsQueue p sheet (jobs ++ j ∷ []) (left ++ c ∷ []) (suc t) (suc t) queue' x) (sym (up.kept (omega arith)))
        (push_queued jobs left (suc t) (suc t) queue queue' coming coming' j c n lj ll pos q (omega arith) (up.queued (omega arith)))
  ]

  -- a job goes on
  pub queue_run : (jobs : List Job) (left : List ℕ) (u v : ℕ) (queue : BTreeMap Rank ℕ) (coming : BTreeSet Due) (i c : ℕ) → i < length left →
      0 < left_at left i → 0 < c → IsQueue p sheet jobs left u v queue coming → IsQueue p sheet jobs (set left i c) u v queue coming
  queue_run jobs left u v queue coming i c b l pos q = record {
    sound = λ s k h. (
        let old : IsEntry p sheet jobs left u s k = q.sound s k h in
        record {
          listed = old.listed;
          rank = old.rank;
          released = old.released;
          waits = elim (cases_eq k i) [
            | inl e ↦ omega (arith, ap (left_at (set left i c)) e, get_or-set_same left i c 0 b)
            | inr ne ↦
                omega (arith, old.waits, get_or-set_other left i k c 0 ne)
          ];
        }
        );
    due = λ d h. (
        let old : IsToCome jobs left v d = q.due d h in
        record {
          listed = old.listed;
          release = old.release;
          later = old.later;
          waits = elim (cases_eq d.number i) [
            | inl e ↦ omega (arith, ap (left_at (set left i c)) e, get_or-set_same left i c 0 b)
            | inr ne ↦
                omega (arith, old.waits, get_or-set_other left i d.number c 0 ne)
          ];
        }
        );
    complete = λ k h m. q.complete k h
        (elim (cases_eq k i) [ inl e ↦ omega (arith, ap (left_at left) e) | inr ne ↦ omega (arith, m, get_or-set_other left i k c 0 ne) ]);
  }

  -- a job is done
  pub queue_done : (jobs : List Job) (left : List ℕ) (u v : ℕ) (queue after : BTreeMap Rank ℕ) (coming : BTreeSet Due) (i : ℕ) → i < length left →
      release_at jobs i < v → IsQueue p sheet jobs left u v queue coming → Updates rank_cmp queue after (rank_of p sheet jobs i) None →
      IsQueue p sheet jobs (set left i 0) u v after coming
  queue_done jobs left u v queue after coming i b began q up = record {
    sound = λ s k h. elim (cases_Bool (is_at (rank_cmp (rank_of p sheet jobs i)) s)) [
      | inl e ↦
          let got : get rank_cmp after s ≡ None = up.0 s ∙ ap (λ (b : Bool). cond b None (get rank_cmp queue s)) e in
          absurd (cc)
      | inr e ↦
          let old : IsEntry p sheet jobs left u s k = q.sound s k (sym (up.2 s e) ∙ h) in
          record {
            listed = old.listed;
            rank = old.rank;
            released = old.released;
            waits = elim (cases_eq k i) [
              | inr ne ↦ omega (arith, old.waits, get_or-set_other left i k 0 0 ne)
              | inl same ↦
                  let r : is_at (rank_cmp s) s ≡ true = itself s in
                  let t : is_at (rank_cmp (rank_of p sheet jobs k)) s ≡ true = subst (λ (x : Rank). is_at (rank_cmp x) s ≡ true) old.rank r in
                  let u : is_at (rank_cmp (rank_of p sheet jobs i)) s ≡ true = subst (λ (x : ℕ). is_at (rank_cmp (rank_of p sheet jobs x)) s ≡ true) same t in
                  absurd (cc)
            ];
          }
    ];
    due = λ d h. (
        let old : IsToCome jobs left v d = q.due d h in
        let other : d.number ≢ i = λ e. (let r : release_at jobs d.number ≡ release_at jobs i = ap (release_at jobs) e in let l =
        old.later in let f = old.release in omega arith) in
        record { listed = old.listed; release = old.release; later = old.later; waits = omega (arith, old.waits, get_or-set_other left i d.number 0 0 other) }
        );
    complete = λ k h m. elim (cases_eq k i) [
      | inl e ↦ absurd (omega (arith, m, ap (left_at (set left i 0)) e, get_or-set_same left i 0 0 b))
      | inr ne ↦ elim (q.complete k h (omega (arith, m, get_or-set_other left i k 0 0 ne))) [
        | inl there ↦ inl (up.2 (rank_of p sheet jobs k) (apart p sheet jobs (rank_of p sheet jobs i) k (λ e. ne (sym e))) ∙ there)
        | inr there ↦ inr there
      ]
    ];
  }

  -- a job to come is let in
  pub queue_let_in : (jobs : List Job) (left : List ℕ) (t v : ℕ) (queue queue' : BTreeMap Rank ℕ) (coming coming' : BTreeSet Due) (d : Due) →
      IsQueue p sheet jobs left (suc t) v queue coming → IsTakenOut t coming coming' d →
      Updates rank_cmp queue queue' (rank_of p sheet jobs d.number) (Some d.number) → IsQueue p sheet jobs left (suc t) v queue' coming'
  queue_let_in jobs left t v queue queue' coming coming' d q out up =
      let own : IsToCome jobs left v d = q.due d out.there in
      let r : Rank = rank_of p sheet jobs d.number in
      record {
        sound = λ s k h. elim (cases_Bool (is_at (rank_cmp r) s)) [
          | inl e ↦
              let got : get rank_cmp queue' s ≡ Some d.number = up.0 s ∙ ap (λ (b : Bool). cond b (Some d.number) (get rank_cmp queue s)) e in
              let is_k : d.number ≡ k = cc in
              let here : IsEntry p sheet jobs left (suc t) s d.number =
              record { listed = own.listed; waits = own.waits; rank = sym (same_entry r s e); released = omega (arith, own.release, out.released) } in
              subst (λ i. IsEntry p sheet jobs left (suc t) s i) is_k here
          | inr e ↦ q.sound s k (sym (up.2 s e) ∙ h)
        ];
        due = λ e h. elim (cases_Bool (is_at (due_cmp d) e)) [
          | inl same ↦
              let none : contains due_cmp coming' e ≡ false = out.gone.0 e ∙ ap (λ (b : Bool). cond b false (contains due_cmp coming e)) same in
              absurd (cc)
          | inr other ↦ q.due e (sym (out.gone.2 e other) ∙ h)
        ];
        complete = λ k h l. elim (cases_eq k d.number) [
          | inl e ↦ inl (subst (λ i. get rank_cmp queue' (rank_of p sheet jobs i) ≡ Some i) (sym e) up.1)
          | inr ne ↦ elim (q.complete k h l) [
            | inl there ↦ inl (up.2 (rank_of p sheet jobs k) (apart p sheet jobs r k (λ e. ne (sym e))) ∙ there)
            | inr there ↦ inr (due_stays coming coming' d (due_of jobs k) false out.gone (λ e. ne (sym e)) ∙ there)
          ]
        ];
      }

  -- before the first of them
  pub queue_begin : (jobs : List Job) (left : List ℕ) (t : ℕ) (queue : BTreeMap Rank ℕ) (coming : BTreeSet Due) →
      IsQueue p sheet jobs left t t queue coming → IsQueue p sheet jobs left (suc t) t queue coming
  queue_begin jobs left t queue coming q = record {
    sound = λ s k h. (let old = q.sound s k h in record { listed = old.listed; waits = old.waits; rank = old.rank; released = omega (arith, old.released) });
    due = q.due;
    complete = q.complete;
  }

  -- and after the last
  pub queue_end : (jobs : List Job) (left : List ℕ) (t : ℕ) (queue : BTreeMap Rank ℕ) (coming : BTreeSet Due) →
      IsQueue p sheet jobs left (suc t) t queue coming → NoneIsDue t coming → IsQueue p sheet jobs left (suc t) (suc t) queue coming
  queue_end jobs left t queue coming q none = record {
    sound = q.sound;
    due = λ d h. (let old = q.due d h in record { listed = old.listed; waits = old.waits; release = old.release; later = none d h });
    complete = q.complete;
  }

-- what the left amounts say of pending jobs
pub record Tells (run : Run) (left : List ℕ) (t : ℕ) : Type 0 where
  pub waits : (k : ℕ) → k < length run.jobs → (job_at run k).release ≤ t → 0 < left_at left k → is_pending run k t ≡ true
  pub over : (k : ℕ) → k < length run.jobs → is_pending run k t ≡ true → 0 < left_at left k

module _ (w : World) (run : Run) (left : List ℕ) (queue : BTreeMap Rank ℕ) (coming : BTreeSet Due) (t : ℕ)
    (q : IsQueue w.policy w.sheet run.jobs left (suc t) (suc t) queue coming) (tells : Tells run left t) where
  -- a pending job is in the queue
  pending_queued : (i : ℕ) → i < length run.jobs → is_pending run i t ≡ true → get rank_cmp queue (rank_of w.policy w.sheet run.jobs i) ≡ Some i
  pending_queued i b pending = elim (q.complete i b (tells.over i b pending)) [
    | inl there ↦ there
    | inr later ↦ absurd (omega (arith, (q.due (due_of run.jobs i) later).later, (pending_from run i t pending).released))
  ]

  pub queue_first : (k : ℕ) (r : Rank) → get rank_cmp queue r ≡ Some k → IsLowerBound rank_cmp queue r → most_urgent w run t ≡ Some k
  unfolding most_urgent
  queue_first k r got low =
      let here : IsEntry w.policy w.sheet run.jobs left (suc t) r k = q.sound r k got in
      let is_r : r ≡ rank_of w.policy w.sheet run.jobs k = here.rank in
      best_some (λ i. is_pending run i t) (comes_before w run) k (length run.jobs) here.listed
      (tells.waits k here.listed (omega (arith, here.released)) here.waits) (λ i b pending ne. (
      let there : get rank_cmp queue (rank_of w.policy w.sheet run.jobs i) ≡ Some i = pending_queued i b pending in
      let some : IsSome (get rank_cmp queue (rank_of w.policy w.sheet run.jobs i)) = ap is_some there in
      let g : is_gt (rank_cmp (rank_of w.policy w.sheet run.jobs k) (rank_of w.policy w.sheet run.jobs i)) ≡ false =
      subst (λ (x : Rank). is_gt (rank_cmp x (rank_of w.policy w.sheet run.jobs i)) ≡ false) is_r
      (low (rank_of w.policy w.sheet run.jobs i) some) in
      let both = before (rank_of w.policy w.sheet run.jobs k) (rank_of w.policy w.sheet run.jobs i) g (λ e. ne (sym e)) in
      (comes_before_is w run k i ∙ both.0, comes_before_is w run i k ∙ both.1)
      ))

  pub queue_none : length queue.entries ≡ 0 → most_urgent w run t ≡ None
  unfolding most_urgent
  queue_none empty =
      best_none (λ i. is_pending run i t) (comes_before w run) (length run.jobs) (λ i b. elim (cases_Bool (is_pending run i t)) [
        | inr f ↦ f
        | inl pending ↦
            let there : get rank_cmp queue (rank_of w.policy w.sheet run.jobs i) ≡ Some i = pending_queued i b pending in
            let none : get rank_cmp queue (rank_of w.policy w.sheet run.jobs i) ≡ None =
            ap (lookup (is_at (rank_cmp (rank_of w.policy w.sheet run.jobs i)))) (nil_from_length queue.entries empty) in
            absurd (cc)
      ])
