-- What a search says of the first place at which a test tells a rule broken.
use Rattle.std.proofs.Common.{◌≡◌, ℕ, ◌<◌, Bool, true, false, not, length, Option, Some, None, MatchOption, sym, ◌∙◌}
use Rattle.std.proofs.lemmas.Bool.{not-true, not_from_true, not_from_false, false_from_ne_true}
use Rattle.lists.specs.Firsts.{must, first_below}
use Rattle.lists.proofs.FirstFacts.{none_from, none_below, first_stays, must_from, must_holds, must_fails}
use Rattle.run_model.specs.declared.run.Run.{Run}
use Rattle.audit.specs.declared.verdict.Fault.{Fault}
use Rattle.audit.specs.declared.verdict.Rule.{Rule}
use Rattle.audit.specs.Faults.{fault_at, found_in}
use Rattle.audit.specs.TickRules.{IsFirstPlace}
use Rattle.audit.specs.declared.verdict.Place.{Place}

-- a row of tests, and the first that fails
module _ (test : ℕ → Bool) (f : ℕ → Fault) (n : ℕ) where
  pub all_hold : ((k : ℕ) → k < n → test k ≡ true) → first_below (λ k. must (test k) (f k)) n ≡ None
  all_hold h = none_from (λ k. must (test k) (f k)) n (λ k b. must_from (test k) (f k) (h k b))

  pub each_holds : first_below (λ k. must (test k) (f k)) n ≡ None → (k : ℕ) → k < n → test k ≡ true
  each_holds none k b = must_holds (test k) (f k) (none_below (λ i. must (test i) (f i)) n k none b)

  pub first_fails : (k : ℕ) → k < n → test k ≡ false → ((i : ℕ) → i < k → test i ≡ true) →
      first_below (λ i. must (test i) (f i)) n ≡ Some (f k)
  first_fails k b out before =
      first_stays (λ i. must (test i) (f i)) (f k) n k b
      (none_from (λ i. must (test i) (f i)) k (λ i c. must_from (test i) (f i) (before i c))) (must_fails (test k) (f k) out)

-- a test of jobs at ticks
module _ (of : Rule) (test : ℕ → ℕ → Bool) where
  pub found_none : (ticks jobs : ℕ) → ((t k : ℕ) → t < ticks → k < jobs → test t k ≡ false) →
      found_in of test ticks jobs ≡ None
  found_none ticks jobs h =
      none_from (λ t. first_below (λ k. must (not (test t k)) (fault_at of k t)) jobs) ticks
      (λ t b. all_hold (λ k. not (test t k)) (λ k. fault_at of k t) jobs (λ k c. not_from_false (test t k) (h t k b c)))

  pub none_found : (ticks jobs t k : ℕ) → found_in of test ticks jobs ≡ None → t < ticks → k < jobs → test t k ≡ false
  none_found ticks jobs t k h b c =
      not-true (test t k)
      (each_holds (λ i. not (test t i)) (λ i. fault_at of i t) jobs
      (none_below (λ s. first_below (λ i. must (not (test s i)) (fault_at of i s)) jobs) ticks t h b) k c)

  pub found_some : (ticks jobs t k : ℕ) → t < ticks → k < jobs → test t k ≡ true →
      ((s m : ℕ) → s < t → m < jobs → test s m ≡ false) → ((m : ℕ) → m < k → test t m ≡ false) →
      found_in of test ticks jobs ≡ Some (fault_at of k t)
  found_some ticks jobs t k b c here before least =
      first_stays (λ s. first_below (λ m. must (not (test s m)) (fault_at of m s)) jobs) (fault_at of k t) ticks t b (found_none t jobs before)
      (first_fails (λ m. not (test t m)) (λ m. fault_at of m t) jobs k c (not_from_true (test t k) here) (λ m d. not_from_false (test t m) (least m d)))

  -- where no tick has a job that passes
  tick_none : (run : Run) → IsFirstPlace test run None →
      found_in of test (length run.ticks) (length run.jobs) ≡ None
  tick_none run none = found_none (length run.ticks) (length run.jobs)
      (λ t k b c. false_from_ne_true (test t k) (λ h. none t b (record { job = k; listed = c; passes = h })))

  -- the first place is the fault that is found
  pub placed : (run : Run) (place : Option Place) (f : Option Fault) → IsFirstPlace test run place →
      MatchOption place (f ≡ None) (λ w. f ≡ Some (fault_at of w.job w.tick)) → f ≡ found_in of test (length run.ticks) (length run.jobs)
  placed run None f none is = is ∙ sym (tick_none run none)
  placed run (Some w) f first is =
      let least = first.1 in
      is
      ∙ sym (found_some (length run.ticks) (length run.jobs) w.tick w.job first.0 least.0 least.1
      (λ s m b c. false_from_ne_true (test s m) (λ h. first.2 s b (record { job = m; listed = c; passes = h })))
      (λ m b. false_from_ne_true (test w.tick m) (least.2 m b)))
