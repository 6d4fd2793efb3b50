-- The jobs of a simulated run only grow.
use Rattle.std.proofs.Common.{◌≡◌, ℕ, zero, suc, ◌<◌, ◌≤◌, List, [], ◌∷◌, ◌++◌, length, get_or, refl, sym, ◌∙◌, ap, subst, inl, inr, arith}
use Rattle.std.proofs.lemmas.Bool.{cases_lt}
use Rattle.std.proofs.lemmas.List.{append_assoc, append-nil, length-append, get_or_append_left}
use Rattle.task_sheet.specs.declared.tasks.Job.{Job}
use Rattle.run_model.specs.Runs.{job_at, no_job}
use Rattle.simulated_run.specs.SimulatedRun.{World, Moment, with_job, with_tick, add_job, add_jobs, arrive_of, arrive_below, add_tick, moment_after}
use Rattle.simulated_run.specs.SimulatedRun.{arriving, after_arriving, room}

-- the list begins with the other
pub record BeginsWith {X : Type 0} (xs front : List X) : Type 0 where
  pub rest : List X
  pub whole : front ++ rest ≡ xs

pub begins_itself : {X : Type 0} (xs : List X) → BeginsWith xs xs
begins_itself xs = record { rest = []; whole = append-nil xs }

pub begins_trans : {X : Type 0} (xs ys zs : List X) → BeginsWith xs ys → BeginsWith ys zs → BeginsWith xs zs
begins_trans xs ys zs b c = record { rest = c.rest ++ b.rest; whole = sym (append_assoc zs c.rest b.rest) ∙ ap (λ (l : List _). l ++ b.rest) c.whole ∙ b.whole }

pub begins_more : {X : Type 0} (xs : List X) (x : X) → BeginsWith (xs ++ x ∷ []) xs
begins_more xs x = record { rest = x ∷ []; whole = refl }

pub length_more : {X : Type 0} (xs : List X) (x : X) → length (xs ++ x ∷ []) ≡ suc (length xs)
length_more xs x = omega (arith, length-append xs (x ∷ []))

pub begins_length : {X : Type 0} (xs ys : List X) → BeginsWith xs ys → length ys ≤ length xs
begins_length xs ys b = omega (arith, length-append ys b.rest, ap length b.whole)

-- the jobs of the one moment are the first of those of the later one
abbrev pub Extends : Moment → Moment → Type 0
Extends later m = BeginsWith later.run.jobs m.run.jobs

pub extends_job : (later m : Moment) (k : ℕ) → Extends later m → k < length m.run.jobs → job_at later.run k ≡ job_at m.run k
extends_job later m k b h = ap (λ (l : List Job). get_or l k no_job) (sym b.whole) ∙ get_or_append_left m.run.jobs b.rest no_job k h

module _ (w : World) where
  pub job_extends : (o t : ℕ) (m : Moment) → Extends (add_job w o t m) m
  unfolding add_job with_job
  job_extends o t m = begins_more m.run.jobs _

  pub jobs_extend : (o t n : ℕ) (m : Moment) → Extends (add_jobs w o t n m) m
  jobs_extend o t zero m = begins_itself m.run.jobs
  jobs_extend o t (suc n) m = begins_trans _ _ _ (job_extends o t (add_jobs w o t n m)) (jobs_extend o t n m)

  -- n jobs are the first of k, where k is no less
  pub jobs_in_turn : (o t n k : ℕ) (m : Moment) → n ≤ k → Extends (add_jobs w o t k m) (add_jobs w o t n m)
  jobs_in_turn o t n zero m h = let e : n ≡ 0 = omega arith in subst (λ i. Extends m (add_jobs w o t i m)) (sym e) (begins_itself m.run.jobs)
  jobs_in_turn o t n (suc k) m h = elim (cases_lt n (suc k)) [
    | inl c ↦ begins_trans _ _ _ (job_extends o t (add_jobs w o t k m)) (jobs_in_turn o t n k m (omega arith))
    | inr c ↦ let e : suc k ≡ n = omega arith in subst (λ i. Extends (add_jobs w o t (suc k) m) (add_jobs w o t i m)) e
        (begins_itself (add_jobs w o t (suc k) m).run.jobs)
  ]

  pub arrivals_extend : (o t : ℕ) (m : Moment) → Extends (arrive_of w o t m) m
  unfolding arrive_of
  arrivals_extend o t m = jobs_extend o t (arriving w.mode (room w o t m) m.state)
      (record { run = m.run; state = after_arriving w.mode (room w o t m) m.state })

  pub tasks_extend : (t n : ℕ) (m : Moment) → Extends (arrive_below w t n m) m
  tasks_extend t zero m = begins_itself m.run.jobs
  tasks_extend t (suc n) m = begins_trans _ _ _ (arrivals_extend n t (arrive_below w t n m)) (tasks_extend t n m)

  -- the jobs of the first n tasks are the first of those of the first k, where k is no less
  pub tasks_in_turn : (t n k : ℕ) (m : Moment) → n ≤ k → Extends (arrive_below w t k m) (arrive_below w t n m)
  tasks_in_turn t n zero m h = let e : n ≡ 0 = omega arith in subst (λ i. Extends m (arrive_below w t i m)) (sym e) (begins_itself m.run.jobs)
  tasks_in_turn t n (suc k) m h = elim (cases_lt n (suc k)) [
    | inl c ↦ begins_trans _ _ _ (arrivals_extend k t (arrive_below w t k m)) (tasks_in_turn t n k m (omega arith))
    | inr c ↦ let e : suc k ≡ n = omega arith in subst (λ i. Extends (arrive_below w t (suc k) m) (arrive_below w t i m)) e
        (begins_itself (arrive_below w t (suc k) m).run.jobs)
  ]

  pub tick_extends : (t : ℕ) (m : Moment) → Extends (add_tick w t m) m
  unfolding add_tick with_tick
  tick_extends t m = begins_itself m.run.jobs

  -- what has arrived by tick n stays
  pub moment_extends : (n : ℕ) → Extends (moment_after w (suc n)) (arrive_below w n (length w.sheet.tasks) (moment_after w n))
  moment_extends n = tick_extends n (arrive_below w n (length w.sheet.tasks) (moment_after w n))

  pub next_extends : (n : ℕ) → Extends (moment_after w (suc n)) (moment_after w n)
  next_extends n = begins_trans _ _ _ (moment_extends n) (tasks_extend n (length w.sheet.tasks) (moment_after w n))

  pub moments_in_turn : (n k : ℕ) → n ≤ k → Extends (moment_after w k) (moment_after w n)
  moments_in_turn n zero h = let e : n ≡ 0 = omega arith in subst (λ i. Extends (moment_after w 0) (moment_after w i)) (sym e)
      (begins_itself (moment_after w 0).run.jobs)
  moments_in_turn n (suc k) h = elim (cases_lt n (suc k)) [
    | inl c ↦ begins_trans _ _ _ (next_extends k) (moments_in_turn n k (omega arith))
    | inr c ↦ let e : suc k ≡ n = omega arith in subst (λ i. Extends (moment_after w (suc k)) (moment_after w i)) e
        (begins_itself (moment_after w (suc k)).run.jobs)
  ]

  -- arrivals leave the ticks, and each tick is one more
  pub job_keeps_ticks : (o t : ℕ) (m : Moment) → (add_job w o t m).run.ticks ≡ m.run.ticks
  unfolding add_job with_job
  job_keeps_ticks o t m = refl

  pub jobs_keep_ticks : (o t n : ℕ) (m : Moment) → (add_jobs w o t n m).run.ticks ≡ m.run.ticks
  jobs_keep_ticks o t zero m = refl
  jobs_keep_ticks o t (suc n) m = job_keeps_ticks o t (add_jobs w o t n m) ∙ jobs_keep_ticks o t n m

  pub arrivals_keep_ticks : (o t : ℕ) (m : Moment) → (arrive_of w o t m).run.ticks ≡ m.run.ticks
  unfolding arrive_of
  arrivals_keep_ticks o t m = jobs_keep_ticks o t (arriving w.mode (room w o t m) m.state)
      (record { run = m.run; state = after_arriving w.mode (room w o t m) m.state })

  pub tasks_keep_ticks : (t n : ℕ) (m : Moment) → (arrive_below w t n m).run.ticks ≡ m.run.ticks
  tasks_keep_ticks t zero m = refl
  tasks_keep_ticks t (suc n) m = arrivals_keep_ticks n t (arrive_below w t n m) ∙ tasks_keep_ticks t n m

  pub tick_counts : (t : ℕ) (m : Moment) → length (add_tick w t m).run.ticks ≡ suc (length m.run.ticks)
  unfolding add_tick with_tick
  tick_counts t m = length_more m.run.ticks _

  pub ticks_count : (n : ℕ) → length (moment_after w n).run.ticks ≡ n
  ticks_count zero = refl
  ticks_count (suc n) =
      omega (
        arith,
        tick_counts n (arrive_below w n (length w.sheet.tasks) (moment_after w n)),
        ap length (tasks_keep_ticks n (length w.sheet.tasks) (moment_after w n)),
        ticks_count n,
      )
