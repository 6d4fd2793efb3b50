-- The service of the jobs, one tick later.
use Rattle.std.proofs.Common.{◌≡◌, ◌≢◌, ℕ, suc, ◌+◌, ◌<◌, ◌≤◌, List, length, get_or, take, drop, ◌++◌, sym, ◌∙◌, ap, subst, inl, inr, arith, add-one, replicate}
use Rattle.std.proofs.lemmas.Bool.{cases_eq}
use Rattle.std.proofs.lemmas.List.{get_or-set_same, get_or-set_other, length-set, length-replicate, get_or-replicate, drop_all, append-nil}
use Rattle.std.proofs.Math.Seq.{take-length}
use Rattle.std.proofs.Math.ListN.{set}
use Rattle.run_model.specs.declared.run.Run.{Run}
use Rattle.run_model.specs.declared.run.Tick.TheVariants.{Runs}
use Rattle.run_model.specs.Runs.{tick_at, service_of}
use Rattle.run_model.proofs.ServiceFacts.{service_none, step_cases, same_job}
use Rattle.audit.specs.ServiceCounts.{IsServed}

at_next : (run : Run) (k t x : ℕ) → x ≡ service_of run k (suc t) → x ≡ service_of run k (t + 1)
at_next run k t x h = rw add-one h

-- a tick that runs no job
pub served_same : (run : Run) (t : ℕ) (served : List ℕ) → t < length run.ticks →
    ((k : ℕ) → tick_at run t ≢ Runs k) → IsServed run t served → IsServed run (t + 1) served
served_same run t served b quiet s = record {
  count = s.count;
  each = λ k c. at_next run k t (get_or served k 0) (elim (step_cases run k t b) [
    | inl stays ↦ s.each k c ∙ sym stays.same
    | inr gains ↦ absurd (quiet k gains.is)
  ]);
  few = λ k c. omega (arith, s.few k c);
}

-- a tick that runs job j
pub served_run : (run : Run) (t j x : ℕ) (served : List ℕ) → t < length run.ticks → tick_at run t ≡ Runs j →
    j < length run.jobs → get_or served j 0 ≡ x → IsServed run t served →
    IsServed run (t + 1) (set served j (x + 1))
served_run run t j x served b is listed at s = record {
  count = omega (arith, length-set served j (x + 1), s.count);
  each = λ k c. at_next run k t (get_or (set served j (x + 1)) k 0) (elim (step_cases run k t b) [
    | inl stays ↦
        let ne : k ≢ j = λ e. stays.other (is ∙ ap Runs (sym e)) in
        omega (arith, s.each k c, stays.same, get_or-set_other served j k (x + 1) 0 ne)
    | inr gains ↦
        let e : k ≡ j = same_job k j (tick_at run t) gains.is is in
        omega (
          arith,
          s.each k c,
          gains.more,
          ap (λ i. get_or (set served j (x + 1)) i 0) e,
          ap (λ i. get_or served i 0) e,
          get_or-set_same served j (x + 1) 0 (omega (arith, s.count)),
          at,
        )
  ]);
  few = λ k c. elim (cases_eq k j) [
    | inl e ↦ omega (arith, s.few j listed, ap (λ i. get_or (set served j (x + 1)) i 0) e, get_or-set_same served j (x + 1) 0 (omega (arith, s.count)), at)
    | inr ne ↦ omega (arith, s.few k c, get_or-set_other served j k (x + 1) 0 ne)
  ];
}

-- before the first tick
pub served_none : (run : Run) (served : List ℕ) → served ≡ replicate (length run.jobs) 0 → IsServed run 0 served
served_none run served is = record {
  count = omega (arith, ap length is, length-replicate {A = ℕ} (length run.jobs) 0);
  each = λ k b. omega (arith, ap (λ (v : List ℕ). get_or v k 0) is, get_or-replicate {A = ℕ} (length run.jobs) k 0 0 b, service_none run k);
  few = λ k b. omega (arith, ap (λ (v : List ℕ). get_or v k 0) is, get_or-replicate {A = ℕ} (length run.jobs) k 0 0 b);
}

-- a list that was written through a slice of its whole
pub written : (xs ys : List ℕ) (n : ℕ) → n ≡ length ys → length xs ≡ length ys → take n (xs ++ drop (length xs) ys) ≡ xs
written xs ys n e f =
    let past : length ys ≤ length xs = omega arith in
    let all : n ≡ length xs = omega arith in
    rw (drop_all (length xs) ys past, append-nil xs, all) (take-length xs)

pub served_written : (run : Run) (t u n : ℕ) (new old : List ℕ) → n ≡ length old → IsServed run t old →
    IsServed run u new → IsServed run u (take n (new ++ drop (length new) old))
served_written run t u n new old e before after = subst (IsServed run u) (sym (written new old n e (omega (arith, before.count, after.count)))) after
