-- Steps "Quiet ticks" and "Busy stretches" of docs/ANALYSIS.md: the last quiet tick, and who is pending after it.
use Rattle.std.proofs.Common.{◌≡◌, ℕ, suc, ◌<◌, ◌≤◌, ◌⊎◌, Bool, true, length, inl, inr, arith}
use Rattle.std.proofs.lemmas.Bool.{cases_lt, cases_Bool}
use Rattle.lists.proofs.SearchFacts.{find_below, last_up_to}
use Rattle.run_model.specs.declared.run.Run.{Run}
use Rattle.run_model.specs.Runs.{job_at, service_of, IsDone}
use Rattle.run_model.proofs.ServiceFacts.{service_le}
use Rattle.busy_window.specs.Busy.{IsQuiet, HasPending}

-- job k is in the set, was released before t and is not done at t
pub record IsLateJob (run : Run) (set : ℕ → Bool) (t k : ℕ) : Type 0 where
  pub inside : set k ≡ true
  pub earlier : (job_at run k).release < t
  pub not_done : service_of run k t < (job_at run k).cost

-- some job of the set that was released before t is not done at t
pub record IsLate (run : Run) (set : ℕ → Bool) (t : ℕ) : Type 0 where
  pub job : ℕ
  pub listed : job < length run.jobs
  pub is : IsLateJob run set t job

module _ (run : Run) (set : ℕ → Bool) where
  in_time_or_late : (t k : ℕ) → (set k ≡ true → (job_at run k).release < t → IsDone run k t) ⊎ IsLateJob run set t k
  in_time_or_late t k = elim (cases_Bool (set k)) [
    | inr out ↦ inl (λ i a. absurd (cc))
    | inl inside ↦ elim (cases_lt (job_at run k).release t) [
      | inr after ↦ inl (λ i a. absurd (omega arith))
      | inl before ↦ elim (cases_lt (service_of run k t) (job_at run k).cost) [
        | inl less ↦ inr (record { inside = inside; earlier = before; not_done = less })
        | inr enough ↦ inl (λ i a. enough)
      ]
    ]
  ]

  quiet_or_late : (t : ℕ) → IsQuiet run set t ⊎ IsLate run set t
  quiet_or_late t =
      let in_time : ℕ → Type 0 = λ k. set k ≡ true → (job_at run k).release < t → IsDone run k t in
      elim (find_below in_time (IsLateJob run set t) (in_time_or_late t) (length run.jobs)) [
        | inl all ↦ inl all
        | inr late ↦ inr (record { job = late.0; listed = late.1; is = late.2 })
      ]

  -- the last quiet tick up to a
  pub last_quiet : (a : ℕ) → (s : ℕ) × (s ≤ a) × IsQuiet run set s × ((u : ℕ) → s < u → u ≤ a → IsLate run set u)
  last_quiet = last_up_to (IsQuiet run set) (IsLate run set) quiet_or_late (λ k b i a. absurd (omega arith))

  -- who is late at the next tick is pending at this one
  pub still_pending : (t : ℕ) → t < length run.ticks → IsLate run set (suc t) → HasPending run set t
  still_pending t h late = record {
    job = late.job;
    inside = late.is.inside;
    pending = record {
      listed = late.listed;
      released = omega (arith, late.is.earlier);
      not_done = omega (arith, late.is.not_done, service_le run late.job t (suc t) (omega arith) (omega arith));
    };
  }

  -- who is late was released since the last quiet tick
  pub late_since : (s u : ℕ) → s ≤ u → u ≤ length run.ticks → IsQuiet run set s →
      (late : IsLate run set u) → s ≤ (job_at run late.job).release
  late_since s u h l quiet late = elim (cases_lt (job_at run late.job).release s) [
    | inr after ↦ after
    | inl before ↦
        let done = quiet late.job late.listed late.is.inside before in
        absurd (omega (arith, done, late.is.not_done, service_le run late.job s u h l))
  ]
