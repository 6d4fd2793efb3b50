-- What the greatest releases so far say of the rule on releases.
use Rattle.std.proofs.Common.{◌≡◌, ◌≢◌, ℕ, ◌+◌, ◌<◌, ◌≤◌, ◌==◌, ◌&&◌, ◌⊎◌, Bool, true, false, cond, min, max, List, length, get_or, replicate, Option}
use Rattle.std.proofs.Common.{Some, None, sym, ◌∙◌, ap, subst, inl, inr, arith, leb, ltb}
use Rattle.std.proofs.lemmas.Bool.{cases_Bool, cases_lt, cases_eq, and_parts, and_from, both_ways, false_from_ne_true, leb-true, le-leb, ltb-true}
use Rattle.std.proofs.lemmas.Bool.{lt-ltb, eqb-true, eq-eqb}
use Rattle.std.proofs.lemmas.List.{get_or-set_same, get_or-set_other, length-set, length-replicate, get_or-replicate}
use Rattle.std.proofs.Math.ListN.{set}
use Rattle.lists.specs.Searches.{IsFirstBelow}
use Rattle.task_sheet.specs.SheetParts.{SheetParts}
use Rattle.run_model.specs.declared.run.Run.{Run}
use Rattle.run_model.specs.Runs.{job_at}
use Rattle.schedule_laws.specs.Tests.{is_before, is_timely, is_overtaken, is_release_broken}
use Rattle.schedule_laws.proofs.TestFacts.{untimely_breaks, overtaken_breaks, never_overtaken}
use Rattle.audit.specs.declared.arrivals.Arrival.{Arrival}
use Rattle.audit.specs.ArrivalOrder.{arrival_at, IsOrder}
use Rattle.audit.specs.Releases.{lesser_of, IsLatest, AreLatest, IsLeastBroken}

-- what one job's overtaking another says of them
record Overtakes (run : Run) (k n : ℕ) : Type 0 where
  same : (job_at run n).task ≡ (job_at run k).task
  earlier : (job_at run n).arrival < (job_at run k).arrival
  later : (job_at run k).release < (job_at run n).release

overtaken_from : (run : Run) (k n : ℕ) → is_overtaken run k n ≡ true → Overtakes run k n
overtaken_from run k n h =
    let parts = and_parts (is_before run n k) (ltb (job_at run k).release (job_at run n).release) h in
    let before = and_parts ((job_at run n).task == (job_at run k).task) (ltb (job_at run n).arrival (job_at run k).arrival) parts.0 in
    record {
      same = eqb-true (job_at run n).task (job_at run k).task before.0;
      earlier = ltb-true (job_at run n).arrival (job_at run k).arrival before.1;
      later = ltb-true (job_at run k).release (job_at run n).release parts.1;
    }

overtaken_to : (run : Run) (k n : ℕ) → Overtakes run k n → is_overtaken run k n ≡ true
overtaken_to run k n o =
    and_from (is_before run n k) (ltb (job_at run k).release (job_at run n).release)
    (and_from _ _ (eq-eqb (job_at run n).task (job_at run k).task o.same) (lt-ltb (job_at run n).arrival (job_at run k).arrival o.earlier))
    (lt-ltb (job_at run k).release (job_at run n).release o.later)

module _ (sheet : SheetParts) (run : Run) (order : List Arrival) (ordered : IsOrder run order) where
  -- an earlier job stands before
  stands_before : (i n : ℕ) → i < length order → n < length run.jobs →
      (job_at run n).arrival < (job_at run (arrival_at order i).job).arrival →
      (p : ℕ) × (p < i) × ((arrival_at order p).job ≡ n)
  stands_before i n b listed earlier =
      let at = ordered.complete n listed in
      elim (cases_lt at.place i) [
        | inl c ↦ (at.place, c, at.is)
        | inr c ↦
            let mine = (ordered.listed i b).tick in
            let tick = (ordered.listed at.place at.within).tick in
            let same : (job_at run (arrival_at order at.place).job).arrival ≡ (job_at run n).arrival = ap (λ k. (job_at run k).arrival) at.is in
            elim (ordered.ascending i at.place c at.within) [
              | inl less ↦ absurd (omega arith)
              | inr eq ↦ let equal = eq.0 in absurd (omega arith)
            ]
      ]

  -- what stands before and is released later arrives earlier
  arrives_earlier : (p i : ℕ) → p < i → i < length order →
      (job_at run (arrival_at order i).job).release < (job_at run (arrival_at order p).job).release →
      (job_at run (arrival_at order p).job).arrival < (job_at run (arrival_at order i).job).arrival
  arrives_earlier p i before b later =
      let mine = ordered.listed i b in
      let other = ordered.listed p (omega arith) in
      elim (ordered.ascending p i (omega arith) b) [
        | inl less ↦ omega (arith, less, mine.tick, other.tick)
        | inr eq ↦ absurd (omega (arith, eq.1, mine.release, other.release, later))
      ]

  in_time : (i latest : ℕ) → i < length order →
      IsLatest run order i (job_at run (arrival_at order i).job).task latest →
      (is_timely sheet (job_at run (arrival_at order i).job) && leb latest (job_at run (arrival_at order i).job).release) ≡ true →
      is_release_broken sheet run (arrival_at order i).job ≡ false
  in_time i latest b is h =
      let k = (arrival_at order i).job in
      let parts = and_parts (is_timely sheet (job_at run k)) (leb latest (job_at run k).release) h in
      never_overtaken sheet run k parts.0 (λ n listed. false_from_ne_true (is_overtaken run k n) (λ over.
      let o = overtaken_from run k n over in
      let at = stands_before i n b listed o.earlier in
      let most = is.most at.0 at.1 (ap (λ j. (job_at run j).task) at.2 ∙ o.same) in
      omega (arith, most, ap (λ j. (job_at run j).release) at.2, o.later, leb-true latest (job_at run k).release parts.1)))

  late : (i latest : ℕ) → i < length order →
      IsLatest run order i (job_at run (arrival_at order i).job).task latest →
      (is_timely sheet (job_at run (arrival_at order i).job) && leb latest (job_at run (arrival_at order i).job).release) ≡ false →
      is_release_broken sheet run (arrival_at order i).job ≡ true
  late i latest b is h =
      let k = (arrival_at order i).job in
      elim (cases_Bool (is_timely sheet (job_at run k))) [
        | inr untimely ↦ untimely_breaks sheet run k untimely
        | inl timely ↦ elim (cases_lt (job_at run k).release latest) [
          | inr c ↦ absurd (both_ways _ h (and_from (is_timely sheet (job_at run k)) (leb latest (job_at run k).release) timely
              (le-leb latest (job_at run k).release c)))
          | inl c ↦
              let passed = is.reached (job_at run k).release c in
              let p = passed.place in
              overtaken_breaks sheet run k (arrival_at order p).job (ordered.listed p (omega (arith, passed.before))).listed
              (overtaken_to run k (arrival_at order p).job
              (record { same = passed.task; earlier = arrives_earlier p i passed.before b passed.later; later = passed.later }))
        ]
      ]

  -- before the first place
  pub least_none : IsLeastBroken sheet run order 0 None
  least_none p c = absurd (omega arith)

  spread : (i p : ℕ) (P : ℕ → Type 0) → ((q : ℕ) → q < i → P q) → P i → p < i + 1 → P p
  spread i p P before here c = elim (cases_lt p i) [
    | inl d ↦ before p d
    | inr d ↦ let e : i ≡ p = omega arith in subst P e here
  ]

  free_more : (i : ℕ) (least : Option ℕ) → is_release_broken sheet run (arrival_at order i).job ≡ false →
      IsLeastBroken sheet run order i least → IsLeastBroken sheet run order (i + 1) least
  free_more i None free h = λ p c. spread i p (λ q. is_release_broken sheet run (arrival_at order q).job ≡ false) h free c
  free_more i (Some k) free h = (
    h.0,
    h.1,
    (λ p c. spread i p (λ q. is_release_broken sheet run (arrival_at order q).job ≡ true → k ≤ (arrival_at order q).job) h.2
        (λ broken. absurd (both_ways _ free broken)) c),
  )

  min_is : (n k : ℕ) → (min n k ≡ n) × (n ≤ k) ⊎ (min n k ≡ k) × (k ≤ n)
  min_is n k = elim (cases_lt k n) [ inl c ↦ inr (omega arith, omega arith) | inr c ↦ inl (omega arith, omega arith) ]

  broken_more : (i : ℕ) (least : Option ℕ) → i < length order →
      is_release_broken sheet run (arrival_at order i).job ≡ true →
      IsLeastBroken sheet run order i least →
      IsLeastBroken sheet run order (i + 1) (lesser_of least (arrival_at order i).job)
  broken_more i None b broken h = (
    (ordered.listed i b).listed,
    broken,
    (λ p c. spread i p (λ q. is_release_broken sheet run (arrival_at order q).job ≡ true →
        (arrival_at order i).job ≤ (arrival_at order q).job) (λ q d bad. absurd (both_ways _ (h q d) bad)) (λ bad. omega arith) c),
  )
  broken_more i (Some n) b broken h =
      let k = (arrival_at order i).job in
      elim (min_is n k) [
        | inl least ↦
            let keep = least.1 in
            subst (λ m. IsLeastBroken sheet run order (i + 1) (Some m)) (sym least.0) (
              h.0,
              h.1,
              (λ p c. spread i p (λ q. is_release_broken sheet run (arrival_at order q).job ≡ true → n ≤ (arrival_at order q).job) h.2 (λ bad. keep) c),
            )
        | inr least ↦
            let less = least.1 in
            subst (λ m. IsLeastBroken sheet run order (i + 1) (Some m)) (sym least.0) (
              (ordered.listed i b).listed,
              broken,
              (λ p c. spread i p (λ q. is_release_broken sheet run (arrival_at order q).job ≡ true → k ≤ (arrival_at order q).job)
                  (λ q d bad. omega (arith, h.2 q d bad, less)) (λ bad. omega arith) c),
            )
      ]

  least_by : (i latest : ℕ) (least : Option ℕ) (ok : Bool) → i < length order →
      IsLatest run order i (job_at run (arrival_at order i).job).task latest →
      ok ≡ (is_timely sheet (job_at run (arrival_at order i).job) && leb latest (job_at run (arrival_at order i).job).release) →
      IsLeastBroken sheet run order i least →
      IsLeastBroken sheet run order (i + 1) (cond ok least (lesser_of least (arrival_at order i).job))
  least_by i latest least true b is e h = free_more i least (in_time i latest b is (sym e)) h
  least_by i latest least false b is e h = broken_more i least b (late i latest b is (sym e)) h

  -- one place more
  pub least_more : (i o before : ℕ) (latest : List ℕ) (least r : Option ℕ) (ok : Bool) → i < length order →
      o < length latest → o ≡ (job_at run (arrival_at order i).job).task → before ≡ get_or latest o 0 →
      AreLatest run order i latest →
      ok ≡ (is_timely sheet (job_at run (arrival_at order i).job) && leb before (job_at run (arrival_at order i).job).release) →
      r ≡ cond ok least (lesser_of least (arrival_at order i).job) → IsLeastBroken sheet run order i least →
      IsLeastBroken sheet run order (i + 1) r
  least_more i o before latest least r ok b c own at all is result h =
      let mine = subst (λ t. IsLatest run order i t (get_or latest o 0)) own (all o c) in
      subst (IsLeastBroken sheet run order (i + 1)) (sym result)
      (least_by i (get_or latest o 0) least ok b mine
      (is ∙ ap (λ (n : ℕ). is_timely sheet (job_at run (arrival_at order i).job) && leb n (job_at run (arrival_at order i).job).release) at) h)

  -- past the last place
  pub least_all : (i : ℕ) (least : Option ℕ) → length order ≤ i → IsLeastBroken sheet run order i least →
      IsFirstBelow (λ k. is_release_broken sheet run k ≡ true) (length run.jobs) least
  least_all i None b h = λ k c broken.
      let at = ordered.complete k c in
      both_ways _ (h at.place (omega (arith, at.within))) (subst (λ n. is_release_broken sheet run n ≡ true) (sym at.is) broken)
  least_all i (Some n) b h = (
    h.0,
    h.1,
    (λ k c broken.
        let listed = h.0 in
        let at = ordered.complete k (omega arith) in
        omega (arith, h.2 at.place (omega (arith, at.within)) (subst (λ m. is_release_broken sheet run m ≡ true) (sym at.is) broken), at.is, c)),
  )

-- the greatest releases, one place later
module _ (run : Run) (order : List Arrival) where
  latest_same : (i o latest : ℕ) → (job_at run (arrival_at order i).job).task ≢ o → IsLatest run order i o latest →
      IsLatest run order (i + 1) o latest
  latest_same i o latest other is = record {
    most = λ p c own. elim (cases_lt p i) [
      | inl d ↦ is.most p d own
      | inr d ↦ let e : i ≡ p = omega arith in absurd (other (ap (λ q. (job_at run (arrival_at order q).job).task) e ∙ own))
    ];
    reached = λ r c. let w = is.reached r c in record { place = w.place; before = omega (arith, w.before); task = w.task; later = w.later };
  }

  latest_own : (i o latest : ℕ) → (job_at run (arrival_at order i).job).task ≡ o → IsLatest run order i o latest →
      IsLatest run order (i + 1) o (max latest (job_at run (arrival_at order i).job).release)
  latest_own i o latest own is = record {
    most = λ p c task. elim (cases_lt p i) [
      | inl d ↦ omega (arith, is.most p d task)
      | inr d ↦ let e : i ≡ p = omega arith in omega (arith, ap (λ q. (job_at run (arrival_at order q).job).release) e)
    ];
    reached = λ r c. elim (cases_lt r latest) [
      | inl d ↦ let w = is.reached r d in record { place = w.place; before = omega (arith, w.before); task = w.task; later = w.later }
      | inr d ↦ record { place = i; before = omega arith; task = own; later = omega arith }
    ];
  }

  pub latest_more : (i o new : ℕ) (latest : List ℕ) → o < length latest →
      (job_at run (arrival_at order i).job).task ≡ o →
      new ≡ max (get_or latest o 0) (job_at run (arrival_at order i).job).release →
      AreLatest run order i latest → AreLatest run order (i + 1) (set latest o new)
  latest_more i o new latest b own is all q c = elim (cases_eq q o) [
    | inl e ↦
        let at : get_or (set latest o new) o 0 ≡ max (get_or latest o 0) (job_at run (arrival_at order i).job).release =
        get_or-set_same latest o new 0 b ∙ is in
        subst (λ w. IsLatest run order (i + 1) w (get_or (set latest o new) w 0)) (sym e)
        (subst (IsLatest run order (i + 1) o) (sym at) (latest_own i o (get_or latest o 0) own (all o b)))
    | inr ne ↦
        let at : get_or (set latest o new) q 0 ≡ get_or latest q 0 = get_or-set_other latest o q new 0 ne in
        subst (IsLatest run order (i + 1) q) (sym at)
        (latest_same i q (get_or latest q 0) (λ e. ne (sym e ∙ own)) (all q (omega (arith, length-set latest o new))))
  ]

  pub latest_none : (n : ℕ) (latest : List ℕ) → latest ≡ replicate n 0 → AreLatest run order 0 latest
  latest_none n latest is o b =
      let many : length latest ≡ n = ap length is ∙ length-replicate {A = ℕ} n 0 in
      let at : get_or latest o 0 ≡ 0 = ap (λ (v : List ℕ). get_or v o 0) is ∙ get_or-replicate {A = ℕ} n o 0 0 (omega arith) in
      subst (IsLatest run order 0 o) (sym at) (record { most = λ p c task. absurd (omega arith); reached = λ r c. absurd (omega arith) })
