-- Step "What runs outside" of docs/ANALYSIS.md, its one job:
-- what runs outside the set is the rest of one segment that had begun before the stretch.
use Rattle.std.proofs.Common.{◌≡◌, ℕ, zero, suc, ◌+◌, ◌-◌, ◌<◌, ◌≤◌, ◌≢◌, Bool, true, false, length, sym, ◌∙◌}
use Rattle.std.proofs.Common.{ap, subst, inl, inr, arith, add-suc, add-zero}
use Rattle.std.proofs.lemmas.Bool.{cases_lt, cases_Bool}
use Rattle.lists.proofs.SearchFacts.{last_up_to}
use Rattle.task_sheet.specs.Sheets.{task_at, IsOf}
use Rattle.run_model.specs.declared.run.Tick.TheVariants.{Runs}
use Rattle.run_model.specs.Runs.{job_at, tick_at, runs, service_of, IsPending}
use Rattle.run_model.proofs.ServiceFacts.{same_job, not_off, step_cases, service_ticks, ticks_in_split}
use Rattle.schedule_laws.specs.Compliance.{can_cut}
use Rattle.schedule_laws.specs.Prefixes.{ServedWithinCost, ServedSinceRelease}
use Rattle.busy_window.specs.Busy.{IsBusy, EachRunsInside, EachIsOutsider}
use Rattle.busy_window.proofs.Setting.{Setting}

-- a busy stretch [s, u), of which the law on its supplied ticks is known, in a run whose prefixes keep theirs
module _ (g : Setting) (within_cost : ServedWithinCost g.m) (since_release : ServedSinceRelease g.m)
    (begun : (k t : ℕ) → k < length g.run.jobs → can_cut g.m g.sheet g.run k t ≡ false → 0 < service_of g.run k t)
    (set : ℕ → Bool) (s u : ℕ) (stretch : IsBusy g.run set s u) (inside : EachRunsInside g.m g.sheet g.run set s u) where
  -- the longest segment of the task of job k
  abbrev segment_of : ℕ → ℕ
  segment_of k = g.m.longest (task_at g.sheet (job_at g.run k).task)

  -- whether job k can be cut once it has had w ticks of service
  abbrev cut_at : ℕ → ℕ → Bool
  cut_at k w = g.m.cuttable (task_at g.sheet (job_at g.run k).task) (job_at g.run k) w

  running : (v k : ℕ) → v < u → tick_at g.run v ≡ Runs k → IsPending g.run k v
  running v k b r = (g.ok.valid.ticks v k (omega (arith, stretch.long)) r).pending

  of_sheet : (k : ℕ) → k < length g.run.jobs → IsOf g.sheet (job_at g.run k)
  of_sheet k l = (g.ok.valid.jobs k l).task

  -- what runs outside the set cannot be cut
  uncut : (v k : ℕ) → s ≤ v → v < u → tick_at g.run v ≡ Runs k → set k ≡ false → can_cut g.m g.sheet g.run k v ≡ false
  uncut v k a b r o =
      let found = inside v a b (not_off k (tick_at g.run v) r) in
      let e : found.0 ≡ k = same_job found.0 k (tick_at g.run v) found.1 r in
      elim found.2 [
        | inl i ↦ absurd (let f = ap set e in cc)
        | inr f ↦ subst (λ w. can_cut g.m g.sheet g.run w v ≡ false) e f.1
      ]

  uncut_back : (v k : ℕ) → s ≤ v → v < u → set k ≡ false → can_cut g.m g.sheet g.run k (suc v) ≡ false →
      can_cut g.m g.sheet g.run k v ≡ false
  uncut_back v k a b o h = elim (step_cases g.run k v (omega (arith, stretch.long))) [
    | inr r ↦ uncut v k a b r.is o
    | inl r ↦ ap (cut_at k) (sym r.same) ∙ h
  ]

  -- nor could it before, in the stretch
  uncut_before : (w d k : ℕ) → s ≤ w → w + d < u → set k ≡ false → can_cut g.m g.sheet g.run k (w + d) ≡ false →
      can_cut g.m g.sheet g.run k w ≡ false
  uncut_before w zero k a b o h = rw add-zero at h
  uncut_before w (suc d) k a b o h =
      uncut_before w d k a (omega arith) o (uncut_back (w + d) k (omega arith) (omega arith) o (rw add-suc at h))

  uncut_from : (w v k : ℕ) → s ≤ w → w ≤ v → v < u → set k ≡ false → tick_at g.run v ≡ Runs k →
      can_cut g.m g.sheet g.run k w ≡ false
  uncut_from w v k a b c o r =
      let e : v ≡ w + (v - w) = omega arith in
      let here = uncut v k (omega arith) c r o in
      uncut_before w (v - w) k a (omega arith) o (subst (λ x. can_cut g.m g.sheet g.run k x ≡ false) e here)

  earlier_same : (v w k n : ℕ) → s ≤ v → v ≤ w → w < u → tick_at g.run v ≡ Runs k → tick_at g.run w ≡ Runs n →
      set n ≡ false → k ≡ n
  earlier_same v w k n a b c p q o =
      let on = not_off k (tick_at g.run v) p in
      let kept = g.ok.segments v n (omega (arith, stretch.long)) (running w n c q).listed on (uncut_from v w n a b c o q) in
      same_job k n (tick_at g.run v) p kept

  -- two jobs that cannot be cut would both have to run
  only_one : (v w k n : ℕ) → s ≤ v → s ≤ w → v < u → w < u → tick_at g.run v ≡ Runs k → tick_at g.run w ≡ Runs n →
      set k ≡ false → set n ≡ false → n ≡ k
  only_one v w k n a b c d p q o i = elim (cases_lt v w) [
    | inl l ↦ sym (earlier_same v w k n a (omega arith) d p q i)
    | inr l ↦ earlier_same w v n k b l c q p o
  ]

  -- up to a place where it could be cut, it does not run any further
  stays_within : (k top d : ℕ) → set k ≡ false → cut_at k top ≡ true → service_of g.run k s ≤ top → s + d ≤ u →
      service_of g.run k (s + d) ≤ top
  stays_within k top zero o t h b = rw add-zero h
  stays_within k top (suc d) o t h b =
      let ih = stays_within k top d o t h (omega arith) in
      rw add-suc (elim (step_cases g.run k (s + d) (omega (arith, stretch.long))) [
        | inl r ↦ omega (arith, r.same, ih)
        | inr r ↦
            let f = uncut (s + d) k (omega arith) (omega arith) r.is o in
            let ne : service_of g.run k (s + d) ≢ top = λ e. absurd (let x = ap (cut_at k) e in cc) in
            omega (arith, r.more, ih, ne)
      ])

  released_early : (v k : ℕ) → s ≤ v → v < u → tick_at g.run v ≡ Runs k → set k ≡ false → (job_at g.run k).release < s
  released_early v k a b r o =
      let service = begun k s (running v k b r).listed (uncut_from s v k (omega arith) a b o r) in
      since_release g.sheet g.run g.ok.valid k s (omega (arith, stretch.long)) service

  -- the place of the last cut before the stretch, and of the next one
  ends_soon : (v k : ℕ) → s ≤ v → v < u → tick_at g.run v ≡ Runs k → set k ≡ false →
      suc (service_of g.run k u) ≤ service_of g.run k s + segment_of k
  ends_soon v k a b r o =
      let l = (running v k b r).listed in
      let now = service_of g.run k s in
      let laws = g.cut (job_at g.run k).task (of_sheet k l) in
      let fit = (g.ok.valid.jobs k l).fit in
      let no_cut : cut_at k now ≡ false = uncut_from s v k (omega arith) a b o r in
      let last = last_up_to (λ w. cut_at k w ≡ true) (λ w. cut_at k w ≡ false) (λ w. cases_Bool (cut_at k w))
      (laws.cut_first (job_at g.run k) fit) now in
      let earlier : last.0 ≢ now = λ e. absurd (let x = ap (cut_at k) e in let t = last.2 in cc) in
      let cost = within_cost g.sheet g.run g.ok.valid k s (omega (arith, stretch.long)) in
      let next = laws.cut_next (job_at g.run k) last.0 fit last.2 (omega (arith, last.1, earlier, cost)) in
      let above : now ≤ next.at = elim (cases_lt next.at now) [
        | inr c ↦ c
        | inl c ↦ absurd {A = now ≤ next.at} (let f = last.3 next.at next.later (omega arith) in let t = next.cut in cc)
      ] in
      let e : s + (u - s) ≡ u = omega arith in
      let stays = stays_within k next.at (u - s) o next.cut above (omega arith) in
      omega (arith, stays, ap (service_of g.run k) e, next.near, last.1, earlier)

  pub outsider : EachIsOutsider g.m g.sheet g.run set s u
  outsider t k a b r o =
      let e : s + (u - s) ≡ u = omega arith in
      let split = ticks_in_split (runs k) g.run s (u - s) (omega (arith, stretch.long)) in
      record {
        early = released_early t k a b r o;
        short = omega (arith, ends_soon t k a b r o, split, service_ticks g.run k s, service_ticks g.run k (s + (u - s)), ap (service_of g.run k) e);
        only = λ v n c d q i. only_one t v k n a c b d r q o i;
      }
