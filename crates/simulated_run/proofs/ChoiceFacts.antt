-- What the choice at a tick says, and what gives it.
use Rattle.std.proofs.Common.{◌≡◌, ◌≢◌, ℕ, suc, ◌+◌, ◌-◌, ◌<◌, ◌≤◌, true, false, length, Some, None, ap, arith}
use Rattle.std.specs.Prelude.{nat_le}
use Rattle.std.proofs.lemmas.Bool.{leb-true, le-leb, lt-leb, false_from_ne_true}
use Rattle.lists.proofs.FirstFacts.{all_parts, all_from, all_broken}
use Rattle.lists.proofs.SearchFacts.{first_is, first_never, first_none, first_some, best_found, best_none, best_some, best_first, no_best}
use Rattle.run_model.specs.declared.run.Run.{Run}
use Rattle.run_model.specs.declared.run.Tick.TheVariants.{Off}
use Rattle.run_model.specs.Runs.{is_on, ticks_in, is_pending, IsPending}
use Rattle.run_model.proofs.PendingFacts.{pending_from, pending_to}
use Rattle.run_model.proofs.ServiceFacts.{ticks_in_none}
use Rattle.schedule_laws.specs.Compliance.{can_cut}
use Rattle.simulated_run.specs.SimulatedRun.{World, with_tick, comes_before, inside_segment, most_urgent, may_be_off}
use Rattle.simulated_run.proofs.OrderFacts.{comes_itself, comes_chain, comes_once}
use Rattle.simulated_run.proofs.RunFacts.{window_new}

-- job k is inside a segment, and no job before it
pub record IsInside (w : World) (run : Run) (t k : ℕ) : Type 0 where
  pub listed : k < length run.jobs
  pub uncut : can_cut w.cuts w.sheet run k t ≡ false
  pub least : (n : ℕ) → n < k → can_cut w.cuts w.sheet run n t ≡ true

-- job k is pending, and no pending job comes before it
pub record IsUrgent (w : World) (run : Run) (t k : ℕ) : Type 0 where
  pub pending : IsPending run k t
  pub first : (n : ℕ) → IsPending run n t → comes_before w run n k ≡ false

module _ (w : World) (run : Run) (t : ℕ) where
  pub inside_some : (k : ℕ) → inside_segment w run t ≡ Some k → IsInside w run t k
  unfolding inside_segment
  inside_some k e =
      let f = first_is (λ k. can_cut w.cuts w.sheet run k t) (length run.jobs) k e in
      record { listed = f.listed; uncut = f.fails; least = f.least }

  pub inside_none : inside_segment w run t ≡ None → (k : ℕ) → k < length run.jobs → can_cut w.cuts w.sheet run k t ≡ true
  unfolding inside_segment
  inside_none e = (first_never (λ k. can_cut w.cuts w.sheet run k t) (length run.jobs) e).all

  -- the one job that cannot be cut
  pub some_inside : (k : ℕ) → k < length run.jobs → can_cut w.cuts w.sheet run k t ≡ false →
      ((n : ℕ) → n < length run.jobs → n ≢ k → can_cut w.cuts w.sheet run n t ≡ true) → inside_segment w run t ≡ Some k
  unfolding inside_segment
  some_inside k b f others = first_some (λ k. can_cut w.cuts w.sheet run k t) k (length run.jobs) b f (λ n h. others n (omega arith) (λ e. omega arith))

  pub none_inside : ((k : ℕ) → k < length run.jobs → can_cut w.cuts w.sheet run k t ≡ true) → inside_segment w run t ≡ None
  unfolding inside_segment
  none_inside all = first_none (λ k. can_cut w.cuts w.sheet run k t) (length run.jobs) all

  pub urgent_some : (k : ℕ) → most_urgent w run t ≡ Some k → IsUrgent w run t k
  unfolding most_urgent
  urgent_some k e =
      let f = best_found (λ k. is_pending run k t) (comes_before w run) (length run.jobs) k e in
      record {
        pending = pending_from run k t f.passes;
        first = λ n p. best_first (λ k. is_pending run k t) (comes_before w run) (length run.jobs) k n (comes_chain w run)
            (comes_itself w run) e p.listed (pending_to run n t p);
      }

  pub urgent_none : most_urgent w run t ≡ None → (k : ℕ) → IsPending run k t → ⊥
  unfolding most_urgent
  urgent_none e k p =
      let z = no_best (λ k. is_pending run k t) (comes_before w run) (length run.jobs) k e p.listed in
      let y = pending_to run k t p in
      absurd (cc)

  -- the one that comes before all others
  pub some_urgent : (k : ℕ) → IsPending run k t → ((n : ℕ) → IsPending run n t → n ≢ k → comes_before w run k n ≡ true) → most_urgent w run t ≡ Some k
  unfolding most_urgent
  some_urgent k p first =
      best_some (λ k. is_pending run k t) (comes_before w run) k (length run.jobs) p.listed (pending_to run k t p)
      (λ n b h ne. (let f = first n (pending_from run n t h) ne in (f, comes_once w run k n f)))

  pub none_urgent : ((k : ℕ) → IsPending run k t → ⊥) → most_urgent w run t ≡ None
  unfolding most_urgent
  none_urgent none = best_none (λ k. is_pending run k t) (comes_before w run) (length run.jobs)
      (λ k b. false_from_ne_true _ (λ h. none k (pending_from run k t h)))

module _ (sbf : ℕ → ℕ) (run : Run) (t : ℕ) (now : length run.ticks ≡ t) where
  -- where the new tick is off, a window that ends with it has the ticks before it
  pub off_window : (s : ℕ) → s ≤ t → ticks_in is_on (with_tick run Off) s (t + 1 - s) ≡ ticks_in is_on run s (t - s)
  off_window s h =
      let e : t + 1 - s ≡ suc (t - s) = omega arith in
      omega (arith, ap (ticks_in is_on (with_tick run Off) s) e, window_new run Off is_on s (t - s) (omega (arith, now)))

  pub off_tells : may_be_off sbf run t ≡ true → (s : ℕ) → s ≤ t → sbf (t + 1 - s) ≤ ticks_in is_on run s (t - s)
  unfolding may_be_off
  off_tells may s h =
      let at : sbf (t + 1 - s) ≤ ticks_in is_on (with_tick run Off) s (t + 1 - s) =
      leb-true _ _
      (all_parts (λ s. nat_le (sbf (t + 1 - s)) (ticks_in is_on (with_tick run Off) s (t + 1 - s))) (t + 1) s may (omega arith)) in
      omega (arith, at, off_window s h)

  pub off_from : ((s : ℕ) → s ≤ t → sbf (t + 1 - s) ≤ ticks_in is_on run s (t - s)) → may_be_off sbf run t ≡ true
  unfolding may_be_off
  off_from each =
      all_from (λ s. nat_le (sbf (t + 1 - s)) (ticks_in is_on (with_tick run Off) s (t + 1 - s))) (t + 1)
      (λ s h. le-leb _ _ (omega (arith, each s (omega arith), off_window s (omega arith))))

  pub off_broken : (s : ℕ) → s ≤ t → ticks_in is_on run s (t - s) < sbf (t + 1 - s) → may_be_off sbf run t ≡ false
  unfolding may_be_off
  off_broken s h few =
      all_broken (λ s. nat_le (sbf (t + 1 - s)) (ticks_in is_on (with_tick run Off) s (t + 1 - s))) (t + 1) s (omega arith)
      (lt-leb (sbf (t + 1 - s)) (ticks_in is_on (with_tick run Off) s (t + 1 - s)) (omega (arith, few, off_window s h)))

  -- where one tick of each is promised, none may be off
  pub never_off : 1 ≤ sbf 1 → may_be_off sbf run t ≡ false
  never_off h =
      let e : t + 1 - t ≡ 1 = omega arith in
      let z : t - t ≡ 0 = omega arith in
      off_broken t (omega arith) (omega (arith, h, ap sbf e, ap (ticks_in is_on run t) z, ticks_in_none is_on run t))
