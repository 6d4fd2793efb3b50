-- A run with one job more, or with one tick more.
use Rattle.std.proofs.Common.{◌≡◌, ℕ, zero, suc, ◌+◌, ◌<◌, ◌≤◌, Bool, true, false, cond, List, [], ◌∷◌, ◌++◌, length, get_or, take, drop, count_by}
use Rattle.std.proofs.Common.{refl, ◌∙◌, ap, arith, length-drop}
use Rattle.std.proofs.lemmas.Bool.{false_from_ne_true}
use Rattle.std.proofs.lemmas.List.{take-append-le, take_all, get_or_at, get_or_append_left, drop-append-le, append_assoc, append-nil}
use Rattle.lists.proofs.SumFacts.{cond_le, count_more}
use Rattle.task_sheet.specs.declared.tasks.Job.{Job}
use Rattle.run_model.specs.declared.run.Run.{Run}
use Rattle.run_model.specs.declared.run.Tick.{Tick}
use Rattle.run_model.specs.declared.run.Tick.TheVariants.{Off, Runs}
use Rattle.run_model.specs.Runs.{job_at, no_job, tick_at, runs, service_of, ticks_in}
use Rattle.run_model.proofs.ServiceFacts.{service_none, service_more, runs_tells}
use Rattle.schedule_laws.specs.Compliance.{arrives_in, arrivals_of}
use Rattle.simulated_run.specs.SimulatedRun.{with_job, with_tick}
use Rattle.simulated_run.proofs.GrowthFacts.{length_more, BeginsWith}

-- what counts, counts once

count_push : {X : Type 0} (p : X → Bool) (xs : List X) (x : X) → count_by p (xs ++ x ∷ []) ≡ count_by p xs + cond (p x) 1 0
count_push {X} p xs x =
    let n : length (xs ++ x ∷ []) ≡ suc (length xs) = length_more xs x in
    let step : count_by p (take (suc (length xs)) (xs ++ x ∷ [])) ≡ count_by p (take (length xs) (xs ++ x ∷ [])) + cond
    (p (get_or (xs ++ x ∷ []) (length xs) x)) 1 0 =
    count_more p (xs ++ x ∷ []) x (length xs) (omega arith) in
    let all : take (suc (length xs)) (xs ++ x ∷ []) ≡ xs ++ x ∷ [] = take_all (suc (length xs)) (xs ++ x ∷ []) (omega arith) in
    let front : take (length xs) (xs ++ x ∷ []) ≡ xs = take-append-le (length xs) xs (x ∷ []) (omega arith) ∙ take_all (length xs) xs (omega arith) in
    let last : get_or (xs ++ x ∷ []) (length xs) x ≡ x = get_or_at xs x [] x (length xs) refl in
    omega (arith, step, ap (λ (l : List X). count_by p l) all, ap (λ (l : List X). count_by p l) front, ap (λ (y : X). cond {A = ℕ} (p y) 1 0) last)

front_le : {X : Type 0} (p q : X → Bool) (xs : List X) (d : X) (n : ℕ) → n ≤ length xs →
    ((k : ℕ) → k < n → p (get_or xs k d) ≡ true → q (get_or xs k d) ≡ true) →
    count_by p (take n xs) ≤ count_by q (take n xs)
front_le p q xs d zero h e = omega arith
front_le p q xs d (suc n) h e =
    omega (
      arith,
      front_le p q xs d n (omega arith) (λ k b. e k (omega arith)),
      count_more p xs d n (omega arith),
      count_more q xs d n (omega arith),
      cond_le (p (get_or xs n d)) (q (get_or xs n d)) (e n (omega arith)),
    )

count_le : {X : Type 0} (p q : X → Bool) (xs : List X) (d : X) →
    ((k : ℕ) → k < length xs → p (get_or xs k d) ≡ true → q (get_or xs k d) ≡ true) → count_by p xs ≤ count_by q xs
count_le {X} p q xs d e =
    omega (
      arith,
      front_le p q xs d (length xs) (omega arith) e,
      ap (λ (l : List X). count_by p l) (take_all (length xs) xs (omega arith)),
      ap (λ (l : List X). count_by q l) (take_all (length xs) xs (omega arith)),
    )

-- a window that takes in all arrivals of the other has no fewer
pub arrivals_le : (run : Run) (o s u a b : ℕ) →
    ((k : ℕ) → k < length run.jobs → arrives_in o s u (job_at run k) ≡ true → arrives_in o a b (job_at run k) ≡ true) →
    arrivals_of run o s u ≤ arrivals_of run o a b
unfolding arrivals_of
arrivals_le run o s u a b e = count_le (arrives_in o s u) (arrives_in o a b) run.jobs no_job e

count_front : {X : Type 0} (p : X → Bool) (xs ys : List X) → count_by p xs ≤ count_by p (xs ++ ys)
count_front p xs [] = omega (arith, ap (count_by p) (append-nil xs))
count_front {X} p xs (y ∷ ys) = omega (arith, count_push p xs y, count_front p (xs ++ y ∷ []) ys, ap (count_by p) (append_assoc xs (y ∷ []) ys))

-- a run whose jobs begin with those of another has no fewer arrivals
pub arrivals_front : (run : Run) (jobs : List Job) (o s u : ℕ) → BeginsWith jobs run.jobs → arrivals_of run o s u ≤ count_by (arrives_in o s u) jobs
unfolding arrivals_of
arrivals_front run jobs o s u b = omega (arith, count_front (arrives_in o s u) run.jobs b.rest, ap (count_by (arrives_in o s u)) b.whole)

-- a job that no tick runs
pub service_unlisted : (run : Run) (n k t : ℕ) → t ≤ length run.ticks → ((u m : ℕ) → u < t → tick_at run u ≡ Runs m → m < n) → n ≤ k → service_of run k t ≡ 0
service_unlisted run n k zero h l b = service_none run k
service_unlisted run n k (suc t) h l b =
    let f : runs k (tick_at run t) ≡ false = false_from_ne_true _ (λ e. (let m = l t k (omega arith) (runs_tells k (tick_at run t) e) in omega arith)) in
    omega (
      arith,
      service_more run k t (omega arith),
      service_unlisted run n k t (omega arith) (λ u m c. l u m (omega arith)) b,
      ap (λ (w : Bool). cond {A = ℕ} w 1 0) f,
    )

module _ (run : Run) (j : Job) where
  pub jobs_more : length (with_job run j).jobs ≡ suc (length run.jobs)
  unfolding with_job
  jobs_more = length_more run.jobs j

  pub job_kept : (k : ℕ) → k < length run.jobs → job_at (with_job run j) k ≡ job_at run k
  unfolding with_job
  job_kept k h = get_or_append_left run.jobs (j ∷ []) no_job k h

  pub job_new : (n : ℕ) → length run.jobs ≡ n → job_at (with_job run j) n ≡ j
  unfolding with_job
  job_new n h = get_or_at run.jobs j [] no_job n h

  pub job_keeps_tick : (t : ℕ) → tick_at (with_job run j) t ≡ tick_at run t
  unfolding with_job
  job_keeps_tick t = refl

  pub job_keeps_service : (k t : ℕ) → service_of (with_job run j) k t ≡ service_of run k t
  unfolding with_job service_of
  job_keeps_service k t = refl

  pub arrivals_more : (o s u : ℕ) → arrivals_of (with_job run j) o s u ≡ arrivals_of run o s u + cond (arrives_in o s u j) 1 0
  unfolding with_job arrivals_of
  arrivals_more o s u = count_push (arrives_in o s u) run.jobs j

module _ (run : Run) (x : Tick) where
  pub ticks_more : length (with_tick run x).ticks ≡ suc (length run.ticks)
  unfolding with_tick
  ticks_more = length_more run.ticks x

  pub tick_kept : (u : ℕ) → u < length run.ticks → tick_at (with_tick run x) u ≡ tick_at run u
  unfolding with_tick
  tick_kept u h = get_or_append_left run.ticks (x ∷ []) Off u h

  pub tick_new : (t : ℕ) → length run.ticks ≡ t → tick_at (with_tick run x) t ≡ x
  unfolding with_tick
  tick_new t h = get_or_at run.ticks x [] Off t h

  pub service_kept : (k t : ℕ) → t ≤ length run.ticks → service_of (with_tick run x) k t ≡ service_of run k t
  unfolding with_tick service_of
  service_kept k t h = ap (count_by (runs k)) (take-append-le t run.ticks (x ∷ []) h)

  pub service_new : (k t : ℕ) → length run.ticks ≡ t → service_of (with_tick run x) k (suc t) ≡ service_of run k t + cond (runs k x) 1 0
  service_new k t h =
      omega (
        arith,
        service_more (with_tick run x) k t (omega (arith, ticks_more)),
        service_kept k t (omega arith),
        ap (λ (w : Tick). cond {A = ℕ} (runs k w) 1 0) (tick_new t h),
      )

  -- a window that ends before the new tick
  pub window_kept : (test : Tick → Bool) (a d : ℕ) → a + d ≤ length run.ticks → ticks_in test (with_tick run x) a d ≡ ticks_in test run a d
  unfolding with_tick ticks_in
  window_kept test a d h =
      let e : drop a (run.ticks ++ x ∷ []) ≡ drop a run.ticks ++ x ∷ [] = drop-append-le a run.ticks (x ∷ []) (omega arith) in
      ap (λ (l : List Tick). count_by test (take d l)) e ∙
      ap (λ (l : List Tick). count_by test l) (take-append-le d (drop a run.ticks) (x ∷ []) (simp length-drop (omega arith)))

  -- one that ends with it
  pub window_new : (test : Tick → Bool) (a d : ℕ) → a + d ≡ length run.ticks →
      ticks_in test (with_tick run x) a (suc d) ≡ ticks_in test run a d + cond (test x) 1 0
  unfolding with_tick ticks_in
  window_new test a d h =
      let e : drop a (run.ticks ++ x ∷ []) ≡ drop a run.ticks ++ x ∷ [] = drop-append-le a run.ticks (x ∷ []) (omega arith) in
      let l : length (drop a run.ticks) ≡ d = simp length-drop (omega arith) in
      let all : take (suc d) (drop a run.ticks ++ x ∷ []) ≡ drop a run.ticks ++ x ∷ [] =
      take_all (suc d) (drop a run.ticks ++ x ∷ []) (omega (arith, length_more (drop a run.ticks) x)) in
      let whole : take d (drop a run.ticks) ≡ drop a run.ticks = take_all d (drop a run.ticks) (omega arith) in
      omega (
        arith,
        ap (λ (l : List Tick). count_by test (take (suc d) l)) e,
        ap (λ (l : List Tick). count_by test l) all,
        count_push test (drop a run.ticks) x,
        ap (λ (l : List Tick). count_by test l) whole,
      )
