-- The first tick that is not valid, the first crowded job and the first short window.
use Rattle.std.proofs.Common.{◌≡◌, ℕ, zero, suc, ◌+◌, ◌-◌, ◌<◌, ◌≤◌, ◌==◌, ◌&&◌, Bool, true, false, not, length, Some, None, refl, sym, ◌∙◌, ap, inl}
use Rattle.std.proofs.Common.{inr, arith}
use Rattle.std.proofs.lemmas.Bool.{and_parts, and_from, both_ways, false_from_ne_true, true_from_ne_false, not-true, not_from_true, not_from_false}
use Rattle.std.proofs.lemmas.Bool.{eqb-true, eq-eqb}
use Rattle.lists.specs.Searches.{IsFirstBelow}
use Rattle.lists.proofs.FirstFacts.{none_from, none_below, first_stays, must_from, must_holds, must_fails}
use Rattle.lists.proofs.SumFacts.{max_at_least}
use Rattle.task_sheet.specs.SheetParts.{SheetParts}
use Rattle.run_model.specs.declared.run.Run.{Run}
use Rattle.run_model.specs.declared.run.Tick.{Tick}
use Rattle.run_model.specs.declared.run.Tick.TheVariants.{Off, Idle, Runs}
use Rattle.run_model.specs.Runs.{job_at, tick_at}
use Rattle.schedule_laws.specs.Compliance.{IsReleased}
use Rattle.schedule_laws.specs.Tests.{AreUncrowded, may_run, may_be_at, is_valid_at, is_release_broken, is_crowded, is_short}
use Rattle.schedule_laws.proofs.TestFacts.{short_from, released_from}
use Rattle.windows.specs.Crowds.{IsNoLater, IsFirstCrowded}
use Rattle.audit.specs.declared.verdict.Fault.{Fault}
use Rattle.audit.specs.declared.verdict.Rule.TheVariants as rule
use Rattle.audit.specs.Faults.{fault_at, unreleased, shortage, unreleased_in, invalid_at, last_arrival, invalid_in, crowded_in, short_in}
use Rattle.audit.specs.Premises.{AreValid}
use Rattle.audit.proofs.SearchFacts.{all_hold, each_holds, first_fails, found_none, none_found, found_some}

-- releases

pub unreleased_some : (sheet : SheetParts) (run : Run) (k : ℕ) →
    IsFirstBelow (λ i. is_release_broken sheet run i ≡ true) (length run.jobs) (Some k) →
    unreleased_in sheet run ≡ Some (unreleased k)
unfolding unreleased_in
unreleased_some sheet run k first =
    first_fails (λ i. not (is_release_broken sheet run i)) unreleased (length run.jobs) k first.0 (not_from_true (is_release_broken sheet run k) first.1)
    (λ i b. not_from_false (is_release_broken sheet run i) (false_from_ne_true (is_release_broken sheet run i) (first.2 i b)))

pub unreleased_none : (sheet : SheetParts) (run : Run) →
    IsFirstBelow (λ i. is_release_broken sheet run i ≡ true) (length run.jobs) None → unreleased_in sheet run ≡ None
unfolding unreleased_in
unreleased_none sheet run none =
    all_hold (λ i. not (is_release_broken sheet run i)) unreleased (length run.jobs)
    (λ i b. not_from_false (is_release_broken sheet run i) (false_from_ne_true (is_release_broken sheet run i) (none i b)))

pub all_released : (sheet : SheetParts) (run : Run) →
    IsFirstBelow (λ i. is_release_broken sheet run i ≡ true) (length run.jobs) None → (k : ℕ) → k < length run.jobs →
    IsReleased sheet run k
all_released sheet run none k b = released_from sheet run k (false_from_ne_true (is_release_broken sheet run k) (none k b))

-- valid ticks

no_fault_at : (run : Run) (t : ℕ) (x : Tick) → may_be_at run t x ≡ true → invalid_at run t x ≡ None
no_fault_at run t Off h = refl
no_fault_at run t Idle h = refl
no_fault_at run t (Runs k) h = must_from (may_run run k t) (fault_at rule.Valid k t) h

valid_without : (run : Run) (t : ℕ) (x : Tick) → invalid_at run t x ≡ None → may_be_at run t x ≡ true
valid_without run t Off h = refl
valid_without run t Idle h = refl
valid_without run t (Runs k) h = must_holds (may_run run k t) (fault_at rule.Valid k t) h

pub invalid_some : (run : Run) (t k : ℕ) →
    IsFirstBelow (λ s. is_valid_at run s ≡ false) (length run.ticks) (Some t) → tick_at run t ≡ Runs k →
    invalid_in run ≡ Some (fault_at rule.Valid k t)
unfolding invalid_in
invalid_some run t k first runs =
    let bad : may_run run k t ≡ false = ap (may_be_at run t) (sym runs) ∙ first.1 in
    first_stays (λ s. invalid_at run s (tick_at run s)) (fault_at rule.Valid k t) (length run.ticks) t first.0
    (none_from (λ s. invalid_at run s (tick_at run s)) t (λ s b. no_fault_at run s (tick_at run s) (true_from_ne_false (is_valid_at run s) (first.2 s b))))
    (ap (invalid_at run t) runs ∙ must_fails (may_run run k t) (fault_at rule.Valid k t) bad)

pub all_valid : (run : Run) → IsFirstBelow (λ s. is_valid_at run s ≡ false) (length run.ticks) None → AreValid run
all_valid run none t b = true_from_ne_false (is_valid_at run t) (none t b)

pub invalid_none : (run : Run) → AreValid run → invalid_in run ≡ None
unfolding invalid_in
invalid_none run all = none_from (λ s. invalid_at run s (tick_at run s)) (length run.ticks) (λ s b. no_fault_at run s (tick_at run s) (all s b))

pub none_invalid : (run : Run) → invalid_in run ≡ None → AreValid run
unfolding invalid_in
none_invalid run none t b = valid_without run t (tick_at run t) (none_below (λ s. invalid_at run s (tick_at run s)) (length run.ticks) t none b)

-- crowds

abbrev crowd_at : SheetParts → Run → ℕ → ℕ → Bool
crowd_at sheet run t k = ((job_at run k).arrival == t) && is_crowded sheet run k

crowd_from : (sheet : SheetParts) (run : Run) (t k : ℕ) → crowd_at sheet run t k ≡ true →
    ((job_at run k).arrival ≡ t) × (is_crowded sheet run k ≡ true)
crowd_from sheet run t k h =
    let parts = and_parts ((job_at run k).arrival == t) (is_crowded sheet run k) h in
    (eqb-true (job_at run k).arrival t parts.0, parts.1)

crowd_to : (sheet : SheetParts) (run : Run) (k : ℕ) → is_crowded sheet run k ≡ true →
    crowd_at sheet run (job_at run k).arrival k ≡ true
crowd_to sheet run k h = and_from _ _ (eq-eqb (job_at run k).arrival (job_at run k).arrival refl) h

no_earlier : (run : Run) (k n : ℕ) → IsNoLater run k n → (job_at run k).arrival ≤ (job_at run n).arrival
no_earlier run k n (inl less) = omega arith
no_earlier run k n (inr same) = omega (arith, same.0)

no_less : (run : Run) (k n : ℕ) → IsNoLater run k n → (job_at run n).arrival ≡ (job_at run k).arrival → k ≤ n
no_less run k n (inl less) e = absurd (omega (arith, less, e))
no_less run k n (inr same) e = same.1

arrives_within : (run : Run) (k : ℕ) → k < length run.jobs → (job_at run k).arrival < last_arrival run + 1
arrives_within run k b = omega (arith, max_at_least (λ n. (job_at run n).arrival) (length run.jobs) k b)

pub crowded_some : (sheet : SheetParts) (run : Run) (k : ℕ) → IsFirstCrowded sheet run (Some k) →
    crowded_in sheet run ≡ Some (fault_at rule.Curve k (job_at run k).arrival)
unfolding crowded_in
crowded_some sheet run k first =
    found_some rule.Curve (crowd_at sheet run) (last_arrival run + 1) (length run.jobs) (job_at run k).arrival k
    (arrives_within run k first.0) first.0 (crowd_to sheet run k first.1)
    (λ s n b c. false_from_ne_true (crowd_at sheet run s n)
    (λ h. let w = crowd_from sheet run s n h in omega (arith, w.0, no_earlier run k n (first.2 n c w.1))))
    (λ n b. false_from_ne_true (crowd_at sheet run (job_at run k).arrival n) (λ h.
    let listed = first.0 in
    let w = crowd_from sheet run (job_at run k).arrival n h in
    omega (arith, no_less run k n (first.2 n (omega arith) w.1) w.0)))

pub uncrowded : (sheet : SheetParts) (run : Run) → IsFirstCrowded sheet run None → AreUncrowded sheet run
uncrowded sheet run none k b = false_from_ne_true (is_crowded sheet run k) (none k b)

pub crowded_none : (sheet : SheetParts) (run : Run) → AreUncrowded sheet run → crowded_in sheet run ≡ None
unfolding crowded_in
crowded_none sheet run none =
    found_none rule.Curve (crowd_at sheet run) (last_arrival run + 1) (length run.jobs)
    (λ t k b c. false_from_ne_true (crowd_at sheet run t k) (λ h. both_ways (is_crowded sheet run k) (none k c) (crowd_from sheet run t k h).1))

pub none_crowded : (sheet : SheetParts) (run : Run) → crowded_in sheet run ≡ None → AreUncrowded sheet run
unfolding crowded_in
none_crowded sheet run none k b = false_from_ne_true (is_crowded sheet run k) (λ h.
    both_ways (crowd_at sheet run (job_at run k).arrival k)
    (none_found rule.Curve (crowd_at sheet run) (last_arrival run + 1) (length run.jobs) (job_at run k).arrival k none (arrives_within run k b) b)
    (crowd_to sheet run k h))

-- shortages

module _ (sbf : ℕ → ℕ) (run : Run) where
  abbrev enough_at : ℕ → Bool
  enough_at u = not (is_short sbf run u)

  abbrev shortage_at : ℕ → Fault
  shortage_at u = shortage (u - 1)

  -- the empty window is not short
  never_at_zero : sbf 0 ≡ 0 → is_short sbf run 0 ≡ false
  never_at_zero starts = false_from_ne_true (is_short sbf run 0) (λ h.
      let s = short_from sbf run 0 h in
      let e : 0 - s.start ≡ 0 = omega arith in
      omega (arith, s.few, ap sbf e))

  enough_to : sbf 0 ≡ 0 → (t : ℕ) → ((s : ℕ) → s < t → is_short sbf run (s + 1) ≡ true → ⊥) → (u : ℕ) → u < t + 1 →
      enough_at u ≡ true
  enough_to starts t before zero b = not_from_false (is_short sbf run 0) (never_at_zero starts)
  enough_to starts t before (suc u) b =
      let e : u + 1 ≡ suc u = omega arith in
      not_from_false (is_short sbf run (suc u)) (false_from_ne_true (is_short sbf run (suc u)) (λ h. before u (omega arith) (rw e h)))

  pub short_some : (t : ℕ) → sbf 0 ≡ 0 →
      IsFirstBelow (λ s. is_short sbf run (s + 1) ≡ true) (length run.ticks) (Some t) →
      short_in sbf run ≡ Some (shortage t)
  unfolding short_in
  short_some t starts first =
      let e : t + 1 - 1 ≡ t = omega arith in
      first_fails enough_at shortage_at (length run.ticks + 1) (t + 1) (omega (arith, first.0))
      (not_from_true (is_short sbf run (t + 1)) first.1) (enough_to starts t first.2) ∙ ap (λ (w : ℕ). Some (shortage w)) e

  pub short_none : sbf 0 ≡ 0 → IsFirstBelow (λ s. is_short sbf run (s + 1) ≡ true) (length run.ticks) None →
      short_in sbf run ≡ None
  unfolding short_in
  short_none starts none = all_hold enough_at shortage_at (length run.ticks + 1) (λ u b. enough_to starts (length run.ticks) none u b)

  pub short_never : ((u : ℕ) → u ≤ length run.ticks → is_short sbf run u ≡ false) → short_in sbf run ≡ None
  unfolding short_in
  short_never never = all_hold enough_at shortage_at (length run.ticks + 1) (λ u b. not_from_false (is_short sbf run u) (never u (omega arith)))

  pub none_short : short_in sbf run ≡ None → (u : ℕ) → u ≤ length run.ticks → is_short sbf run u ≡ false
  unfolding short_in
  none_short none u b = not-true (is_short sbf run u) (each_holds enough_at shortage_at (length run.ticks + 1) none u (omega arith))
