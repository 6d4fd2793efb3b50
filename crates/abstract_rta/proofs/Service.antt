-- Step "What runs outside" of docs/ANALYSIS.md, its end:
-- by the laws of busy stretches, the supply of a stretch serves the set, but for one segment's rest.
use Rattle.std.proofs.Common.{◌≡◌, ℕ, zero, suc, ◌+◌, ◌-◌, ◌<◌, ◌≤◌, ◌⊎◌, ◌==◌, ◌&&◌, ◌||◌, Bool, true, false, cond}
use Rattle.std.proofs.Common.{List, [], ◌∷◌, length, refl, sym, ◌∙◌, ap, subst, inl, inr, arith, add-suc, eq-eqb}
use Rattle.std.proofs.lemmas.Bool.{cases_lt, cases_Bool, not-true, eqb-true, and_parts, and_from, or_cases, or_left, or_right}
use Rattle.lists.proofs.SumFacts.{cond_mono, sum_le, sum_gap}
use Rattle.run_model.specs.declared.run.Tick.{Tick}
use Rattle.run_model.specs.declared.run.Tick.TheVariants.{Off, Idle, Runs}
use Rattle.run_model.specs.Runs.{job_at, tick_at, runs, service_of, ticks_in}
use Rattle.run_model.proofs.ServiceFacts.{service_more, service_le, runs_self, ticks_in_none, ticks_in_more}
use Rattle.busy_window.specs.Busy.{IsUpSet, IsBusy, is_one_of, runs_in, runs_out, HasEnoughInside}
use Rattle.abstract_rta.proofs.Setting.{Setting, ran, segment_of, served}

-- The laws speak of sets that are given by lists. A set of the jobs of a run is the list of its numbers.

-- the numbers below n that pass
abbrev numbers_of : (ℕ → Bool) → ℕ → List ℕ
numbers_of test zero = []
numbers_of test (suc n) = cond (test n) (n ∷ numbers_of test n) (numbers_of test n)

one_of_first : (b : Bool) (n : ℕ) (us : List ℕ) (k : ℕ) →
    is_one_of (cond b (n ∷ us) us) k ≡ ((b && (n == k)) || is_one_of us k)
one_of_first true n us k = refl
one_of_first false n us k = refl

listed_passes : (test : ℕ → Bool) (n k : ℕ) → is_one_of (numbers_of test n) k ≡ true → test k ≡ true
listed_passes test zero k h = absurd (cc)
listed_passes test (suc n) k h = elim (or_cases _ _ (sym (one_of_first (test n) n (numbers_of test n) k) ∙ h)) [
  | inl here ↦
      let parts = and_parts _ _ here in
      let e : n ≡ k = eqb-true n k parts.1 in
      subst (λ w. test w ≡ true) e parts.0
  | inr below ↦ listed_passes test n k below
]

passes_listed : (test : ℕ → Bool) (n k : ℕ) → k < n → test k ≡ true → is_one_of (numbers_of test n) k ≡ true
passes_listed test zero k h t = absurd (omega arith)
passes_listed test (suc n) k h t =
    one_of_first (test n) n (numbers_of test n) k ∙ elim (cases_lt k n) [
      | inl c ↦ or_right _ _ (passes_listed test n k c t)
      | inr c ↦ let e : n ≡ k = omega arith in or_left _ _ (and_from _ _ (ap test e ∙ t) (eq-eqb n k e))
    ]

where_more : (b : Bool) (m n : ℕ) → b ≡ true → n ≡ suc m → cond b m 0 + 1 ≤ cond b n 0
where_more b m n e h = grind arith

-- the job that a tick runs
job_inside : (set : ℕ → Bool) (x : Tick) → runs_in set x ≡ true → (k : ℕ) × (x ≡ Runs k) × (set k ≡ true)
job_inside set Off h = absurd (cc)
job_inside set Idle h = absurd (cc)
job_inside set (Runs k) h = (k, refl, h)

job_outside : (set : ℕ → Bool) (x : Tick) → runs_out set x ≡ true → (k : ℕ) × (x ≡ Runs k) × (set k ≡ false)
job_outside set Off h = absurd (cc)
job_outside set Idle h = absurd (cc)
job_outside set (Runs k) h = (k, refl, not-true (set k) h)

-- a segment of a job outside the set that was released before s blocks for at most so many ticks
abbrev pub BlockAtMost : Setting → (ℕ → Bool) → ℕ → ℕ → Type 0
BlockAtMost g set s most =
    (k : ℕ) → k < length g.run.jobs → set k ≡ false → (job_at g.run k).release < s → segment_of g k - 1 ≤ most

-- what runs of the set in a busy stretch was released in it
pub inside_since : (g : Setting) (set : ℕ → Bool) (s u : ℕ) → IsBusy g.run set s u →
    (v k : ℕ) → s ≤ v → v < u → tick_at g.run v ≡ Runs k → set k ≡ true → s ≤ (job_at g.run k).release
inside_since g set s u stretch v k a b r i = elim (cases_lt (job_at g.run k).release s) [
  | inr after ↦ after
  | inl before ↦
      let p = ran g v k (omega (arith, stretch.long)) r in
      let more = service_le g.run k s v a (omega (arith, stretch.long)) in
      absurd (omega (arith, stretch.quiet k p.listed i before, p.not_done, more))
]

module _ (g : Setting) (set : ℕ → Bool) (s u : ℕ) (up : IsUpSet g.p g.sheet g.run set)
    (stretch : IsBusy g.run set s u) where
  -- the set, given by a list
  abbrev us : List ℕ
  us = numbers_of set (length g.run.jobs)

  us_up : IsUpSet g.p g.sheet g.run (is_one_of us)
  us_up = λ k n b c h e. passes_listed set (length g.run.jobs) k b (up k n b c h (listed_passes set (length g.run.jobs) n e))

  us_busy : IsBusy g.run (is_one_of us) s u
  us_busy = record {
    order = stretch.order;
    long = stretch.long;
    quiet = λ k b i a. stretch.quiet k b (listed_passes set (length g.run.jobs) k i) a;
    busy = λ t a b.
        let p = stretch.busy t a b in
        let inside = passes_listed set (length g.run.jobs) p.job p.pending.listed p.inside in
        record { job = p.job; inside = inside; pending = p.pending };
  }

  outside : (k : ℕ) → k < length g.run.jobs → is_one_of us k ≡ false → set k ≡ false
  outside k b o = elim (cases_Bool (set k)) [
    | inr f ↦ f
    | inl t ↦ absurd (let i = passes_listed set (length g.run.jobs) k b t in cc)
  ]

  -- the law that the supply runs inside or outside
  enough : HasEnoughInside g.sbf g.sheet g.run (is_one_of us) s u
  enough = g.laws.enough g.sheet g.laws.valid g.laws.serves g.run g.ok us us_up s u us_busy

  record Outsider (d : ℕ) : Type 0 where
    at : ℕ
    job : ℕ
    from : s ≤ at
    to : at < s + d
    is : tick_at g.run at ≡ Runs job
    out : is_one_of us job ≡ false

  none_or_outsider : (d : ℕ) → s + d ≤ u → (ticks_in (runs_out (is_one_of us)) g.run s d ≡ 0) ⊎ Outsider d
  none_or_outsider zero h = inl (ticks_in_none (runs_out (is_one_of us)) g.run s)
  none_or_outsider (suc d) h = elim (none_or_outsider d (omega arith)) [
    | inr o ↦ inr (record { at = o.at; job = o.job; from = o.from; to = omega (arith, o.to); is = o.is; out = o.out })
    | inl z ↦ elim (cases_Bool (runs_out (is_one_of us) (tick_at g.run (s + d)))) [
      | inl t ↦
          let k = job_outside (is_one_of us) (tick_at g.run (s + d)) t in
          inr (record { at = s + d; job = k.0; from = omega arith; to = omega arith; is = k.1; out = k.2 })
      | inr f ↦
          let more = ticks_in_more (runs_out (is_one_of us)) g.run s d (omega (arith, stretch.long)) in
          inl (omega (arith, z, more, ap (λ (b : Bool). cond {A = ℕ} b 1 0) f))
    ]
  ]

  -- ticks that run outside are ticks of the one job that does
  out_of_one : (k : ℕ) → ((t n : ℕ) → s ≤ t → t < u → tick_at g.run t ≡ Runs n → is_one_of us n ≡ false → n ≡ k) →
      (d : ℕ) → s + d ≤ u → ticks_in (runs_out (is_one_of us)) g.run s d ≤ ticks_in (runs k) g.run s d
  out_of_one k only zero h = omega (arith, ticks_in_none (runs_out (is_one_of us)) g.run s)
  out_of_one k only (suc d) h =
      let ih = out_of_one k only d (omega arith) in
      let long : s + d < length g.run.ticks = omega (arith, stretch.long) in
      let out = ticks_in_more (runs_out (is_one_of us)) g.run s d long in
      let own = ticks_in_more (runs k) g.run s d long in
      elim (cases_Bool (runs_out (is_one_of us) (tick_at g.run (s + d)))) [
        | inr f ↦ omega (arith, ih, out, own, ap (λ (b : Bool). cond {A = ℕ} b 1 0) f)
        | inl t ↦
            let n = job_outside (is_one_of us) (tick_at g.run (s + d)) t in
            let e : n.0 ≡ k = only (s + d) n.0 (omega arith) (omega arith) n.1 n.2 in
            let i : tick_at g.run (s + d) ≡ Runs k = n.1 ∙ ap Runs e in
            let one = ap (λ (b : Bool). cond {A = ℕ} b 1 0) (runs_self k (tick_at g.run (s + d)) i) in
            omega (arith, ih, out, own, ap (λ (b : Bool). cond {A = ℕ} b 1 0) t, one)
      ]

  -- by the law that there is one such job
  out_bound : (most : ℕ) → BlockAtMost g set s most → ticks_in (runs_out (is_one_of us)) g.run s (u - s) ≤ most
  out_bound most bound = elim (none_or_outsider (u - s) (omega (arith, stretch.order))) [
    | inl z ↦ omega (arith, z)
    | inr o ↦
        let below : o.at < u = omega (arith, o.to) in
        let each = g.laws.outsider g.sheet g.laws.valid g.laws.serves g.run g.ok us us_up s u us_busy in
        let one = each o.at o.job o.from below o.is o.out in
        let l = (ran g o.at o.job (omega (arith, stretch.long)) o.is).listed in
        let blocks = bound o.job l (outside o.job l o.out) one.early in
        omega (arith, out_of_one o.job one.only (u - s) (omega (arith, stretch.order)), one.short, blocks)
  ]

  -- chosen jobs, all that run of the set among them
  module _ (chosen : ℕ → Bool)
      (is_chosen : (v k : ℕ) → s ≤ v → v < u → tick_at g.run v ≡ Runs k → set k ≡ true → chosen k ≡ true) where
    served_stays : (t : ℕ) → t < length g.run.ticks → served g chosen t ≤ served g chosen (suc t)
    unfolding served
    served_stays t h =
        sum_le _ _ (length g.run.jobs) (λ k b. cond_mono (chosen k) _ _ (omega (arith, service_more g.run k t h)))

    served_grows : (t k : ℕ) → t < length g.run.ticks → k < length g.run.jobs → tick_at g.run t ≡ Runs k → chosen k ≡ true →
        served g chosen t + 1 ≤ served g chosen (suc t)
    unfolding served
    served_grows t k h l r c =
        let one = ap (λ (b : Bool). cond {A = ℕ} b 1 0) (runs_self k (tick_at g.run t) r) in
        let at : ℕ → ℕ → ℕ = λ v k. cond (chosen k) (service_of g.run k v) 0 in
        sum_gap (at t) (at (suc t)) (length g.run.jobs) k 1 l
        (λ k b. cond_mono (chosen k) _ _ (omega (arith, service_more g.run k t h)))
        (where_more (chosen k) _ _ c (omega (arith, service_more g.run k t h, one)))

    inside_served : (d : ℕ) → s + d ≤ u → ticks_in (runs_in (is_one_of us)) g.run s d ≤ served g chosen (s + d)
    inside_served zero h = omega (arith, ticks_in_none (runs_in (is_one_of us)) g.run s)
    inside_served (suc d) h =
        let ih = inside_served d (omega arith) in
        let long : s + d < length g.run.ticks = omega (arith, stretch.long) in
        let more = ticks_in_more (runs_in (is_one_of us)) g.run s d long in
        rw add-suc (elim (cases_Bool (runs_in (is_one_of us) (tick_at g.run (s + d)))) [
          | inr f ↦ omega (arith, ih, more, served_stays (s + d) long, ap (λ (b : Bool). cond {A = ℕ} b 1 0) f)
          | inl t ↦
              let k = job_inside (is_one_of us) (tick_at g.run (s + d)) t in
              let i = is_chosen (s + d) k.0 (omega arith) (omega arith) k.1 (listed_passes set (length g.run.jobs) k.0 k.2) in
              let grows = served_grows (s + d) k.0 long (ran g (s + d) k.0 long k.1).listed k.1 i in
              omega (arith, ih, more, grows, ap (λ (b : Bool). cond {A = ℕ} b 1 0) t)
        ])

    -- the supply of the stretch goes to the chosen jobs, but for the rest of one segment
    pub supply_served : (most : ℕ) → BlockAtMost g set s most → g.sbf (u - s) ≤ most + served g chosen u
    supply_served most bound =
        let e : s + (u - s) ≡ u = omega (arith, stretch.order) in
        let inside = inside_served (u - s) (omega (arith, stretch.order)) in
        omega (arith, enough, out_bound most bound, inside, ap (served g chosen) e)
