-- Step "What runs outside" of docs/ANALYSIS.md, its count:
-- each supplied tick of a busy stretch runs inside the set or outside.
use Rattle.std.proofs.Common.{◌≡◌, ℕ, zero, suc, ◌+◌, ◌-◌, ◌<◌, ◌≤◌, Bool, cond, not, length, refl, arith}
use Rattle.run_model.specs.declared.run.Tick.{Tick}
use Rattle.run_model.specs.declared.run.Tick.TheVariants.{Off, Idle, Runs}
use Rattle.run_model.specs.Runs.{tick_at, ticks_in, is_on}
use Rattle.run_model.proofs.ServiceFacts.{ticks_in_none, ticks_in_more}
use Rattle.busy_window.specs.Busy.{IsBusy, runs_in, runs_out, EachRunsInside, HasEnoughInside}
use Rattle.busy_window.proofs.Setting.{Setting}

either_one : (b : Bool) → 1 ≤ cond b 1 0 + cond (not b) 1 0
either_one b = grind arith

in_or_out : (set : ℕ → Bool) (x : Tick) → (x ≡ Idle → ⊥) →
    cond (is_on x) 1 0 ≤ cond (runs_in set x) 1 0 + cond (runs_out set x) 1 0
in_or_out set Off h = omega arith
in_or_out set Idle h = absurd (h refl)
in_or_out set (Runs k) h = either_one (set k)

module _ (g : Setting) (set : ℕ → Bool) (s u : ℕ) (stretch : IsBusy g.run set s u)
    (inside : EachRunsInside g.m g.sheet g.run set s u) where
  never_idle : (v : ℕ) → s ≤ v → v < u → tick_at g.run v ≡ Idle → ⊥
  never_idle v a b i = let r = (inside v a b (λ off. cc)).1 in cc

  supplied_ticks : (d : ℕ) → s + d ≤ u →
      ticks_in is_on g.run s d ≤ ticks_in (runs_in set) g.run s d + ticks_in (runs_out set) g.run s d
  supplied_ticks zero h = omega (arith, ticks_in_none is_on g.run s)
  supplied_ticks (suc d) h =
      let long : s + d < length g.run.ticks = omega (arith, stretch.long) in
      omega (
        arith,
        supplied_ticks d (omega arith),
        ticks_in_more is_on g.run s d long,
        ticks_in_more (runs_in set) g.run s d long,
        ticks_in_more (runs_out set) g.run s d long,
        in_or_out set (tick_at g.run (s + d)) (never_idle (s + d) (omega arith) (omega arith)),
      )

  pub supply_runs : HasEnoughInside g.sbf g.sheet g.run set s u
  supply_runs =
      let supplied = g.ok.supplied s u stretch.order stretch.long in
      omega (arith, supplied, supplied_ticks (u - s) (omega (arith, stretch.order)))
