use Rattle.std.proofs.Common.{◌≡◌, ℕ, zero, suc, ◌+◌, ◌-◌, ◌<◌, ◌≤◌, ◌≢◌, ◌⊎◌, Bool, true, cond, length, get_or, drop, refl, ◌∙◌, ap, inl, inr, arith}
use Rattle.std.proofs.Common.{add-suc, add-zero, eq-eqb, length-drop, get_or-drop}
use Rattle.std.proofs.lemmas.Bool.{cases_Bool, eqb-true}
use Rattle.std.proofs.lemmas.Grind.{common_steps}
use Rattle.lists.proofs.SumFacts.{count_more}
use Rattle.run_model.specs.declared.run.Run.{Run}
use Rattle.run_model.specs.declared.run.Tick.{Tick}
use Rattle.run_model.specs.declared.run.Tick.TheVariants.{Off, Idle, Runs}
use Rattle.run_model.specs.Runs.{job_at, tick_at, runs, service_of, ticks_in, IsPending}

pub service_none : (run : Run) (k : ℕ) → service_of run k 0 ≡ 0
unfolding service_of
service_none run k = grind (arith, common_steps)

pub service_more : (run : Run) (k t : ℕ) → t < length run.ticks → service_of run k (suc t) ≡ service_of run k t + cond (runs k (tick_at run t)) 1 0
unfolding service_of
service_more run k t h = count_more (runs k) run.ticks Off t h

pub ticks_in_none : (test : Tick → Bool) (run : Run) (t : ℕ) → ticks_in test run t 0 ≡ 0
unfolding ticks_in
ticks_in_none test run t = grind (arith, common_steps)

pub ticks_in_more : (test : Tick → Bool) (run : Run) (t d : ℕ) → t + d < length run.ticks →
    ticks_in test run t (suc d) ≡ ticks_in test run t d + cond (test (tick_at run (t + d))) 1 0
unfolding ticks_in
ticks_in_more test run t d h =
    let e : get_or (drop t run.ticks) d Off ≡ get_or run.ticks (t + d) Off = get_or-drop t run.ticks d Off in
    rw e at (count_more test (drop t run.ticks) Off d (simp length-drop (omega arith)))

pub runs_tells : (k : ℕ) (x : Tick) → runs k x ≡ true → x ≡ Runs k
runs_tells k Off h = cc
runs_tells k Idle h = cc
runs_tells k (Runs m) h = ap Runs (eqb-true m k h)

pub runs_self : (k : ℕ) (x : Tick) → x ≡ Runs k → runs k x ≡ true
runs_self k x h = ap (runs k) h ∙ eq-eqb k k refl

-- a tick runs one job
pub same_job : (k n : ℕ) (x : Tick) → x ≡ Runs k → x ≡ Runs n → k ≡ n
same_job k n x p q = cc

pub not_off : (k : ℕ) (x : Tick) → x ≡ Runs k → x ≢ Off
not_off k x p q = cc

pub tick_cases : (x : Tick) → (x ≡ Off) ⊎ ((x ≡ Idle) ⊎ ((k : ℕ) × (x ≡ Runs k)))
tick_cases Off = inl refl
tick_cases Idle = inr (inl refl)
tick_cases (Runs k) = inr (inr (k, refl))

-- tick t does not run k
pub record Stays (run : Run) (k t : ℕ) : Type 0 where
  pub other : tick_at run t ≢ Runs k
  pub same : service_of run k (suc t) ≡ service_of run k t

-- tick t runs k
pub record Gains (run : Run) (k t : ℕ) : Type 0 where
  pub is : tick_at run t ≡ Runs k
  pub more : service_of run k (suc t) ≡ suc (service_of run k t)

pub step_cases : (run : Run) (k t : ℕ) → t < length run.ticks → Stays run k t ⊎ Gains run k t
step_cases run k t h = elim (cases_Bool (runs k (tick_at run t))) [
  | inl e ↦ inr (record { is = runs_tells k (tick_at run t) e; more = omega (arith, service_more run k t h, ap (λ (b : Bool). cond {A = ℕ} b 1 0) e) })
  | inr e ↦ inl (record {
    other = (λ r. let f : runs k (tick_at run t) ≡ true = runs_self k (tick_at run t) r in cc);
    same = omega (arith, service_more run k t h, ap (λ (b : Bool). cond {A = ℕ} b 1 0) e);
  })
]

service_mono : (run : Run) (k t d : ℕ) → t + d ≤ length run.ticks → service_of run k t ≤ service_of run k (t + d)
service_mono run k t zero h = grind arith
service_mono run k t (suc d) h = rw add-suc (omega (arith, service_more run k (t + d) (omega arith), service_mono run k t d (omega arith)))

pub service_le : (run : Run) (k t u : ℕ) → t ≤ u → u ≤ length run.ticks → service_of run k t ≤ service_of run k u
service_le run k t u h l =
    let e : t + (u - t) ≡ u = omega arith in
    omega (arith, service_mono run k t (u - t) (omega arith), ap (service_of run k) e)

-- the service, as the ticks from the first on
pub service_ticks : (run : Run) (k t : ℕ) → service_of run k t ≡ ticks_in (runs k) run 0 t
unfolding service_of ticks_in
service_ticks run k t = refl

-- the ticks before s + d, in two parts
pub ticks_in_split : (test : Tick → Bool) (run : Run) (s d : ℕ) → s + d ≤ length run.ticks →
    ticks_in test run 0 (s + d) ≡ ticks_in test run 0 s + ticks_in test run s d
ticks_in_split test run s zero h = rw add-zero (omega (arith, ticks_in_none test run s))
ticks_in_split test run s (suc d) h =
    let e : 0 + (s + d) ≡ s + d = omega arith in
    let more = ticks_in_more test run 0 (s + d) (omega arith) in
    rw add-suc (omega (
      arith,
      ticks_in_split test run s d (omega arith),
      more,
      ticks_in_more test run s d (omega arith),
      ap (λ (w : ℕ). cond {A = ℕ} (test (tick_at run w)) 1 0) e,
    ))

-- every tick that runs a job runs one that is pending
pub record RunsPending (run : Run) : Type 0 where
  pub pending : (t k : ℕ) → t < length run.ticks → tick_at run t ≡ Runs k → IsPending run k t

module _ (run : Run) (valid : RunsPending run) where
  service_step : (k t : ℕ) → t < length run.ticks → service_of run k t ≤ (job_at run k).cost → service_of run k (suc t) ≤ (job_at run k).cost
  service_step k t h l = elim (step_cases run k t h) [
    | inr r ↦ omega (arith, r.more, (valid.pending t k h r.is).not_done)
    | inl r ↦ omega (arith, r.same)
  ]

  pub service_le_cost : (k t : ℕ) → t ≤ length run.ticks → service_of run k t ≤ (job_at run k).cost
  service_le_cost k zero h = omega (arith, service_none run k)
  service_le_cost k (suc t) h = service_step k t (omega arith) (service_le_cost k t (omega arith))

  -- what has run was released
  pub served_released : (k t : ℕ) → t ≤ length run.ticks → 0 < service_of run k t → (job_at run k).release < t
  served_released k zero h p = absurd (omega (arith, service_none run k))
  served_released k (suc t) h p = elim (step_cases run k t (omega arith)) [
    | inr r ↦ omega (arith, (valid.pending t k (omega arith) r.is).released)
    | inl r ↦ omega (arith, served_released k t (omega arith) (omega (arith, r.same)))
  ]
