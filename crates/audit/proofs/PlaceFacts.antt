-- The first place at which a rule is broken, by the first of the pending jobs.
use Rattle.std.proofs.Common.{◌≡◌, ◌≢◌, ℕ, ◌+◌, ◌<◌, ◌&&◌, not, Bool, true, false, length, Option, Some, None, refl, sym, ◌∙◌, ap, inl, inr, below_more}
use Rattle.std.proofs.lemmas.Bool.{cases_Bool, both_ways, and_parts, and_left, not-true}
use Rattle.lists.specs.Searches.{IsFirstBelow}
use Rattle.task_sheet.specs.SheetParts.{SheetParts}
use Rattle.policy.specs.declared.keys.Key.{Key}
use Rattle.policy.specs.Keys.{key_le}
use Rattle.policy.proofs.KeyFacts.{key_le_trans}
use Rattle.policy.specs.PolicyMeaning.{PolicyMeaning}
use Rattle.preemption.specs.CutMeaning.{CutMeaning}
use Rattle.run_model.specs.declared.run.Run.{Run}
use Rattle.run_model.specs.declared.run.Tick.{Tick}
use Rattle.run_model.specs.declared.run.Tick.TheVariants.{Off, Idle, Runs}
use Rattle.run_model.specs.Runs.{job_at, tick_at, is_pending}
use Rattle.schedule_laws.specs.Compliance.{can_cut}
use Rattle.schedule_laws.specs.Tests.{is_idle, is_more_urgent, is_idle_broken, is_priority_broken}
use Rattle.urgency.specs.Queues.{IsMostUrgent}
use Rattle.urgency.proofs.RankFacts.{urgent_by_rank}
use Rattle.audit.specs.TickRules.{IsTick, IsFirstPlace, IsListed, place_at, is_urgent_by}

-- tests that agree have the same first number
pub first_like : (p q : ℕ → Bool) (n : ℕ) (r : Option ℕ) → ((k : ℕ) → q k ≡ p k) →
    IsFirstBelow (λ k. p k ≡ true) n r → IsFirstBelow (λ k. q k ≡ true) n r
first_like p q n None same h = λ k b t. h k b (sym (same k) ∙ t)
first_like p q n (Some i) same h = (h.0, same i ∙ h.1, (λ k b t. h.2 k b (sym (same k) ∙ t)))

module _ (test : ℕ → ℕ → Bool) (run : Run) (t : ℕ) where
  -- no place at a tick
  pub place_more : ((s : ℕ) → s < t → IsTick test run s → ⊥) → IsFirstBelow (λ k. test t k ≡ true) (length run.jobs) None →
      (s : ℕ) → s < t + 1 → IsTick test run s → ⊥
  place_more before none = below_more (λ s. IsTick test run s → ⊥) t before (λ w. none w.job w.listed w.passes)

  pub place_here : (k : ℕ) → t < length run.ticks → ((s : ℕ) → s < t → IsTick test run s → ⊥) →
      IsFirstBelow (λ i. test t i ≡ true) (length run.jobs) (Some k) → IsFirstPlace test run (Some (place_at t k))
  place_here k b before first = (b, first, before)

-- idle ticks

pub idle_is : (run : Run) (t k : ℕ) → tick_at run t ≡ Idle → is_idle_broken run t k ≡ is_pending run k t
unfolding is_idle_broken
idle_is run t k e = ap (λ x. is_idle x && is_pending run k t) e

busy_at : (run : Run) (t k : ℕ) (x : Tick) → x ≢ Idle → is_idle x ≡ false
busy_at run t k Off ne = refl
busy_at run t k Idle ne = absurd (ne refl)
busy_at run t k (Runs n) ne = refl

pub busy_is : (run : Run) (t k : ℕ) → tick_at run t ≢ Idle → is_idle_broken run t k ≡ false
unfolding is_idle_broken
busy_is run t k ne = and_left (is_idle (tick_at run t)) (is_pending run k t) (busy_at run t k (tick_at run t) ne)

-- priorities

module _ (p : PolicyMeaning) (m : CutMeaning) (sheet : SheetParts) (run : Run) (t : ℕ) where
  pub urgent_is : (k n : ℕ) (key : Key) → tick_at run t ≡ Runs k → can_cut m sheet run k t ≡ true →
      key ≡ p.key sheet (job_at run k) → is_priority_broken p m sheet run t n ≡ is_urgent_by p sheet run key t n
  unfolding is_priority_broken
  urgent_is k n key runs cut is =
      ap (is_more_urgent p m sheet run t n) runs
      ∙ (ap (λ c. c && is_urgent_by p sheet run (p.key sheet (job_at run k)) t n) cut ∙ ap (λ (a : Key). is_urgent_by p sheet run a t n) (sym is))

  pub uncut_is : (k n : ℕ) → tick_at run t ≡ Runs k → can_cut m sheet run k t ≡ false →
      is_priority_broken p m sheet run t n ≡ false
  unfolding is_priority_broken
  uncut_is k n runs cut =
      ap (is_more_urgent p m sheet run t n) runs ∙ ap (λ c. c && is_urgent_by p sheet run (p.key sheet (job_at run k)) t n) cut

  -- where no pending job is more urgent, none overtakes
  pub none_overtakes : (k n : ℕ) (key : Key) → tick_at run t ≡ Runs k → key ≡ p.key sheet (job_at run k) →
      (is_urgent_by p sheet run key t n ≡ true → ⊥) → is_priority_broken p m sheet run t n ≡ true → ⊥
  none_overtakes k n key runs is none h = elim (cases_Bool (can_cut m sheet run k t)) [
    | inl cut ↦ none (sym (urgent_is k n key runs cut is) ∙ h)
    | inr uncut ↦ both_ways _ (uncut_is k n runs uncut) h
  ]

  no_run_at : (n : ℕ) (x : Tick) → ((k : ℕ) → x ≢ Runs k) → is_more_urgent p m sheet run t n x ≡ false
  no_run_at n Off ne = refl
  no_run_at n Idle ne = refl
  no_run_at n (Runs k) ne = absurd (ne k refl)

  pub no_run_is : (n : ℕ) → ((k : ℕ) → tick_at run t ≢ Runs k) → is_priority_broken p m sheet run t n ≡ false
  unfolding is_priority_broken
  no_run_is n ne = no_run_at n (tick_at run t) ne

pub first_listed : (p : PolicyMeaning) (sheet : SheetParts) (run : Run) (t : ℕ) (first : Option ℕ) →
    IsMostUrgent p sheet run.jobs (λ k. is_pending run k t) first → IsListed run first
first_listed p sheet run t None h = tt
first_listed p sheet run t (Some f) h = h.0

module _ (p : PolicyMeaning) (sheet : SheetParts) (run : Run) (t : ℕ) (key : Key) where
  -- where the most urgent of the pending jobs is not more urgent, none is
  pub none_urgent : (f : ℕ) → IsMostUrgent p sheet run.jobs (λ k. is_pending run k t) (Some f) →
      key_le key (p.key sheet (job_at run f)) ≡ true → (k : ℕ) → k < length run.jobs →
      is_urgent_by p sheet run key t k ≡ true → ⊥
  none_urgent f first least k b h =
      let parts = and_parts (is_pending run k t) (not (key_le key (p.key sheet (job_at run k)))) h in
      let order = urgent_by_rank p sheet run.jobs f k (first.2 k b parts.0) in
      both_ways (key_le key (p.key sheet (job_at run k))) (not-true _ parts.1)
      (key_le_trans key (p.key sheet (job_at run f)) (p.key sheet (job_at run k)) least order)

  pub none_at_all : IsMostUrgent p sheet run.jobs (λ k. is_pending run k t) None → (k : ℕ) → k < length run.jobs →
      is_urgent_by p sheet run key t k ≡ true → ⊥
  none_at_all none k b h = both_ways (is_pending run k t) (none k b) (and_parts (is_pending run k t) (not (key_le key (p.key sheet (job_at run k)))) h).0
