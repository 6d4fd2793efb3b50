-- Step "What runs outside" of docs/ANALYSIS.md, its ticks:
-- a supplied tick of a busy stretch runs a job of the set, or one outside that cannot be cut.
use Rattle.std.proofs.Common.{◌≡◌, ℕ, ◌<◌, ◌≤◌, Bool, true, false, length, inl, inr, arith}
use Rattle.std.proofs.lemmas.Bool.{cases_Bool}
use Rattle.run_model.specs.declared.run.Tick.TheVariants.{Idle, Runs}
use Rattle.run_model.specs.Runs.{tick_at}
use Rattle.run_model.proofs.ServiceFacts.{tick_cases}
use Rattle.schedule_laws.specs.Compliance.{can_cut}
use Rattle.busy_window.specs.Busy.{IsUpSet, IsBusy, EachRunsInside}
use Rattle.busy_window.proofs.Setting.{Setting}

module _ (g : Setting) (set : ℕ → Bool) (s u : ℕ) (up : IsUpSet g.p g.sheet g.run set)
    (stretch : IsBusy g.run set s u) where
  -- no tick is idle, since a job of the set is pending
  not_idle : (v : ℕ) → s ≤ v → v < u → tick_at g.run v ≡ Idle → ⊥
  not_idle v a b i = let p = stretch.busy v a b in g.ok.conserving v p.job (omega (arith, stretch.long)) i p.pending

  -- what can be cut where it runs is at least as urgent as that job, so it is of the set
  outside_uncut : (v k : ℕ) → s ≤ v → v < u → tick_at g.run v ≡ Runs k → set k ≡ false →
      can_cut g.m g.sheet g.run k v ≡ false
  outside_uncut v k a b r o = elim (cases_Bool (can_cut g.m g.sheet g.run k v)) [
    | inr f ↦ f
    | inl t ↦
        let p = stretch.busy v a b in
        let long : v < length g.run.ticks = omega (arith, stretch.long) in
        let urgent = g.ok.policy v k p.job long r t p.pending in
        let i : set k ≡ true = up k p.job (g.ok.valid.ticks v k long r).pending.listed p.pending.listed urgent p.inside in
        absurd (cc)
  ]

  pub supplied_tick : EachRunsInside g.m g.sheet g.run set s u
  supplied_tick t a b on = elim (tick_cases (tick_at g.run t)) [
    | inl off ↦ absurd (on off)
    | inr (inl idle) ↦ absurd (not_idle t a b idle)
    | inr (inr r) ↦ elim (cases_Bool (set r.0)) [
      | inl inside ↦ (r.0, r.1, inl inside)
      | inr outside ↦ (r.0, r.1, inr (outside, outside_uncut t r.0 a b r.1 outside))
    ]
  ]
