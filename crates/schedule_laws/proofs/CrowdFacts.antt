-- The windows that decide whether arrivals are within the curves.
use Rattle.std.proofs.Common.{◌≡◌, ℕ, zero, suc, ◌+◌, ◌-◌, ◌<◌, ◌≤◌, ◌⊎◌, ◌==◌, Bool, true, false, cond, length, take, count_by, refl, sym, ap, subst}
use Rattle.std.proofs.Common.{inl, inr, arith, leb}
use Rattle.std.proofs.lemmas.Bool.{cases_eq, and_parts, and_from, both_ways, false_from_ne_true, not-true, not-false, not_from_false, lt-leb, le-leb}
use Rattle.std.proofs.lemmas.Bool.{leb-true, leb-false, eq-eqb}
use Rattle.std.proofs.lemmas.Bool.Decides.{nat_tests}
use Rattle.std.proofs.Math.Seq.{take-length}
use Rattle.lists.proofs.FirstFacts.{all_parts}
use Rattle.lists.proofs.SearchFacts.{find_below}
use Rattle.lists.proofs.SumFacts.{count_more}
use Rattle.curve.specs.Curves.{alpha_of}
use Rattle.curve.proofs.CurveFacts.{alpha_mono}
use Rattle.task_sheet.specs.declared.tasks.Job.{Job}
use Rattle.task_sheet.specs.SheetParts.{SheetParts}
use Rattle.task_sheet.specs.Sheets.{task_at, IsOf, IsValidSheet}
use Rattle.run_model.specs.declared.run.Run.{Run}
use Rattle.run_model.specs.Runs.{job_at, no_job}
use Rattle.schedule_laws.specs.Compliance.{arrives_in, arrivals_of, IsWithinCurves}
use Rattle.schedule_laws.specs.Tests.{AreOf, is_within_curve, is_crowded, is_crowded_since, AreUncrowded}
use Rattle.schedule_laws.proofs.TestFacts.{crowded_from, crowded_to}

same_front : (p q : Job → Bool) (run : Run) (n : ℕ) → n ≤ length run.jobs →
    ((k : ℕ) → k < n → p (job_at run k) ≡ q (job_at run k)) →
    count_by p (take n run.jobs) ≡ count_by q (take n run.jobs)
same_front p q run zero h e = refl
same_front p q run (suc n) h e =
    omega (
      arith,
      same_front p q run n (omega arith) (λ k b. e k (omega arith)),
      count_more p run.jobs no_job n (omega arith),
      count_more q run.jobs no_job n (omega arith),
      ap (λ (b : Bool). cond {A = ℕ} b 1 0) (e n (omega arith)),
    )

-- tests that agree on every job count the same
same_count : (p q : Job → Bool) (run : Run) →
    ((k : ℕ) → k < length run.jobs → p (job_at run k) ≡ q (job_at run k)) →
    count_by p run.jobs ≡ count_by q run.jobs
same_count p q run e = simp take-length at (same_front p q run (length run.jobs) (omega arith) e)

same_arrivals : (run : Run) (o t u v w : ℕ) →
    ((k : ℕ) → k < length run.jobs → arrives_in o t u (job_at run k) ≡ arrives_in o v w (job_at run k)) →
    arrivals_of run o t u ≡ arrivals_of run o v w
unfolding arrivals_of
same_arrivals run o t u v w e = same_count (arrives_in o t u) (arrives_in o v w) run e

none_front : (run : Run) (n : ℕ) → n ≤ length run.jobs → count_by (λ j. false) (take n run.jobs) ≡ 0
none_front run zero h = refl
none_front run (suc n) h = omega (arith, none_front run n (omega arith), count_more (λ j. false) run.jobs no_job n (omega arith))

none_passes : (run : Run) → count_by (λ j. false) run.jobs ≡ 0
none_passes run = simp take-length at (none_front run (length run.jobs) (omega arith))

in_none : (o t : ℕ) (j : Job) → arrives_in o t (t + 0) j ≡ false
in_none o t j = grind (arith, nat_tests)

-- nothing arrives in an empty window
arrivals_none : (run : Run) (o t : ℕ) → arrivals_of run o t (t + 0) ≡ 0
unfolding arrivals_of
arrivals_none run o t = omega (arith, same_count (arrives_in o t (t + 0)) (λ j. false) run (λ k c. in_none o t (job_at run k)), none_passes run)

-- some job of task o arrives at t, or none does
pub arrival_or_none : (run : Run) (o t : ℕ) →
    ((k : ℕ) × (k < length run.jobs) × ((job_at run k).task ≡ o) × ((job_at run k).arrival ≡ t)) ⊎ ((k : ℕ) →
    k < length run.jobs → (job_at run k).task ≡ o → (job_at run k).arrival ≡ t → ⊥)
arrival_or_none run o t =
    let found = find_below (λ k. (job_at run k).task ≡ o → (job_at run k).arrival ≡ t →
    ⊥) (λ k. ((job_at run k).task ≡ o) × ((job_at run k).arrival ≡ t)) (λ k. elim (cases_eq (job_at run k).task o) [
      | inr ne ↦ inl (λ e i. ne e)
      | inl e ↦ elim (cases_eq (job_at run k).arrival t) [ inl i ↦ inr (e, i) | inr ne ↦ inl (λ e i. ne i) ]
    ]) (length run.jobs) in
    elim found [ inl none ↦ inr none | inr k ↦ inl (k.0, k.1, k.2.0, k.2.1) ]

not_at_end : (o t d : ℕ) (j : Job) → (j.task ≡ o → j.arrival ≡ t + d → ⊥) →
    arrives_in o t (t + suc d) j ≡ arrives_in o t (t + d) j
not_at_end o t d j h = grind (arith, nat_tests)

not_at_start : (o t u : ℕ) (j : Job) → (j.task ≡ o → j.arrival ≡ t → ⊥) → arrives_in o t u j ≡ arrives_in o (suc t) u j
not_at_start o t u j h = grind (arith, nat_tests)

-- where no job of task o arrives at t, none arrives in that tick
pub none_arrive : (run : Run) (o t : ℕ) →
    ((k : ℕ) → k < length run.jobs → (job_at run k).task ≡ o → (job_at run k).arrival ≡ t → ⊥) →
    arrivals_of run o t (t + 1) ≡ 0
none_arrive run o t none = omega (
  arith,
  arrivals_none run o t,
  same_arrivals run o t (t + suc 0) t (t + 0) (λ k c. not_at_end o t 0 (job_at run k) (λ e i. none k c e (omega arith))),
)

window_length : (t d : ℕ) → t + suc d - t ≡ suc d
window_length t d = omega arith

-- no window that ends with the arrival of job k has a crowd
uncrowded_window : (sheet : SheetParts) (run : Run) (k t : ℕ) → is_crowded sheet run k ≡ false →
    t ≤ (job_at run k).arrival →
    arrivals_of run (job_at run k).task t ((job_at run k).arrival + 1) ≤ alpha_of (task_at sheet (job_at run k).task).curve ((job_at run k).arrival + 1 - t)
unfolding is_crowded
uncrowded_window sheet run k t free h = leb-true _ _ (all_parts (is_within_curve sheet run k) ((job_at run k).arrival + 1) t (not-false _ free) (omega arith))

module _ (sheet : SheetParts) (ok : IsValidSheet sheet) (run : Run) where
  -- a window that begins where nothing arrives has a crowd only if the next one has
  crowded_next : (k t : ℕ) → IsOf sheet (job_at run k) → t < (job_at run k).arrival →
      ((n : ℕ) → n < length run.jobs → (job_at run n).task ≡ (job_at run k).task → (job_at run n).arrival ≡ t → ⊥) →
      is_within_curve sheet run k t ≡ false → is_within_curve sheet run k (suc t) ≡ false
  crowded_next k t of h none many =
      let o = (job_at run k).task in
      let b = (job_at run k).arrival in
      lt-leb _ _ (omega (
        arith,
        leb-false _ _ many,
        alpha_mono (task_at sheet o).curve (ok.each o of).curve (b + 1 - suc t) (b + 1 - t) (omega arith),
        same_arrivals run o t (b + 1) (suc t) (b + 1) (λ n c. not_at_start o t (b + 1) (job_at run n) (none n c)),
      ))

  since_from : (k n t : ℕ) → (job_at run n).task ≡ (job_at run k).task → (job_at run n).arrival ≡ t →
      t ≤ (job_at run k).arrival → is_within_curve sheet run k t ≡ false → is_crowded_since sheet run k n ≡ true
  since_from k n t same at h many =
      and_from _ _ (eq-eqb (job_at run n).task (job_at run k).task same)
      (and_from _ _ (le-leb (job_at run n).arrival (job_at run k).arrival (omega arith))
      (not_from_false _ (subst (λ w. is_within_curve sheet run k w ≡ false) (sym at) many)))

  -- windows that begin at an arrival suffice
  begins : (k t d : ℕ) → k < length run.jobs → IsOf sheet (job_at run k) → t + d ≡ (job_at run k).arrival →
      ((n : ℕ) → n < length run.jobs → is_crowded_since sheet run k n ≡ false) →
      is_within_curve sheet run k t ≡ false → ⊥
  begins k t zero b of e free many = both_ways _ (free k b) (since_from k k t refl (omega arith) (omega arith) many)
  begins k t (suc d) b of e free many = elim (arrival_or_none run (job_at run k).task t) [
    | inl n ↦ both_ways _ (free n.0 n.1) (since_from k n.0 t n.2 n.3 (omega arith) many)
    | inr none ↦ begins k (suc t) d b of (omega arith) free (crowded_next k t of (omega arith) none many)
  ]

  pub begins_suffice : (k : ℕ) → k < length run.jobs → IsOf sheet (job_at run k) →
      ((n : ℕ) → n < length run.jobs → is_crowded_since sheet run k n ≡ false) → is_crowded sheet run k ≡ false
  begins_suffice k b of free = false_from_ne_true (is_crowded sheet run k) (λ h.
      let c = crowded_from sheet run k h in
      begins k c.start ((job_at run k).arrival - c.start) b of (omega (arith, c.within)) free (lt-leb _ _ c.many))

  -- a job since whose arrival there is a crowd
  pub since_crowds : (k n : ℕ) → is_crowded_since sheet run k n ≡ true → is_crowded sheet run k ≡ true
  since_crowds k n h =
      let same = and_parts ((job_at run n).task == (job_at run k).task) _ h in
      let late = and_parts (leb (job_at run n).arrival (job_at run k).arrival) _ same.1 in
      crowded_to sheet run k (record {
        start = (job_at run n).arrival;
        within =
            leb-true (job_at run n).arrival (job_at run k).arrival late.0;
        many = leb-false _ _ (not-true _ late.1);
      })

  -- windows that end with an arrival suffice
  windows : AreUncrowded sheet run → (o t d : ℕ) → o < length sheet.tasks →
      arrivals_of run o t (t + d) ≤ alpha_of (task_at sheet o).curve d
  windows free o t zero b = omega (arith, arrivals_none run o t)
  windows free o t (suc d) b = elim (arrival_or_none run o (t + d)) [
    | inl k ↦
        let e : (job_at run k.0).arrival + 1 ≡ t + suc d = omega (arith, k.3) in
        let of_o = subst (λ w. arrivals_of run w t ((job_at run k.0).arrival + 1) ≤ alpha_of (task_at sheet w).curve
        ((job_at run k.0).arrival + 1 - t)) k.2 (uncrowded_window sheet run k.0 t (free k.0 k.1) (omega (arith, k.3))) in
        let at_end = subst (λ w. arrivals_of run o t w ≤ alpha_of (task_at sheet o).curve (w - t)) e of_o in
        rw window_length at at_end
    | inr none ↦ omega (
      arith,
      windows free o t d b,
      alpha_mono (task_at sheet o).curve (ok.each o b).curve d (suc d)
          (omega arith),
      same_arrivals run o t (t + suc d) t (t + d) (λ k c. not_at_end o t d (job_at run k) (none k c)),
    )
  ]

  pub ends_suffice : AreUncrowded sheet run → IsWithinCurves sheet run
  ends_suffice free o t u b h =
      let e : t + (u - t) ≡ u = omega arith in
      subst (λ w. arrivals_of run o t w ≤ alpha_of (task_at sheet o).curve (u - t)) e (windows free o t (u - t) b)

  pub within_free : AreOf sheet run → IsWithinCurves sheet run → AreUncrowded sheet run
  within_free of within k b = false_from_ne_true (is_crowded sheet run k) (λ h.
      let c = crowded_from sheet run k h in
      omega (arith, c.many, within (job_at run k).task c.start ((job_at run k).arrival + 1) (of k b) (omega (arith, c.within))))
