-- The windows that end before a tick, from the shortest on.
use Rattle.std.proofs.Common.{◌≡◌, ℕ, zero, suc, ◌+◌, ◌-◌, ◌<◌, ◌≤◌, Bool, true, false, cond, length, ap, subst, arith}
use Rattle.std.proofs.lemmas.Bool.{false_from_ne_true}
use Rattle.run_model.specs.declared.run.Run.{Run}
use Rattle.run_model.specs.declared.run.Tick.{Tick}
use Rattle.run_model.specs.Runs.{tick_at, is_on, ticks_in}
use Rattle.run_model.proofs.ServiceFacts.{ticks_in_none, ticks_in_more}
use Rattle.schedule_laws.specs.Tests.{is_short}
use Rattle.schedule_laws.proofs.TestFacts.{short_from, short_to}

-- a window, from its first tick on
pub ticks_in_front : (test : Tick → Bool) (run : Run) (t d : ℕ) → t + d < length run.ticks →
    ticks_in test run t (suc d) ≡ cond (test (tick_at run t)) 1 0 + ticks_in test run (suc t) d
ticks_in_front test run t zero h =
    let e : t + 0 ≡ t = omega arith in
    omega (
      arith,
      ticks_in_more test run t 0 (omega arith),
      ticks_in_none test run t,
      ticks_in_none test run (suc t),
      ap (λ (w : ℕ). cond {A = ℕ} (test (tick_at run w)) 1 0) e,
    )
ticks_in_front test run t (suc d) h =
    let e : t + suc d ≡ suc t + d = omega arith in
    omega (
      arith,
      ticks_in_front test run t d (omega arith),
      ticks_in_more test run t (suc d) h,
      ticks_in_more test run (suc t) d (omega arith),
      ap (λ (w : ℕ). cond {A = ℕ} (test (tick_at run w)) 1 0) e,
    )

-- one tick more at the front of a window that ends with u
pub window_more : (test : Tick → Bool) (run : Run) (u d : ℕ) → d < u → u ≤ length run.ticks →
    ticks_in test run (u - (d + 1)) (d + 1) ≡ ticks_in test run (u - d) d + cond (test (tick_at run (u - d - 1))) 1 0
window_more test run u d h l =
    let s : d + 1 ≡ suc d = omega arith in
    let e : u - d ≡ suc (u - (d + 1)) = omega arith in
    let f : u - d - 1 ≡ u - (d + 1) = omega arith in
    omega (
      arith,
      ticks_in_front test run (u - (d + 1)) d (omega arith),
      ap (ticks_in test run (u - (d + 1))) s,
      ap (λ (w : ℕ). ticks_in test run w d) e,
      ap (λ (w : ℕ). cond {A = ℕ} (test (tick_at run w)) 1 0) f,
    )

-- a window of d ticks that is short
pub short_by : (sbf : ℕ → ℕ) (run : Run) (u d : ℕ) → d ≤ u → ticks_in is_on run (u - d) d < sbf d →
    is_short sbf run u ≡ true
short_by sbf run u d h few =
    let e : d ≡ u - (u - d) = omega arith in
    short_to sbf run u (record { start = u - d; within = omega arith; few = subst (λ w. ticks_in is_on run (u - d) w < sbf w) e few })

-- no length's window is short
pub never_short : (sbf : ℕ → ℕ) (run : Run) (u : ℕ) → ((d : ℕ) → d ≤ u → ticks_in is_on run (u - d) d < sbf d → ⊥) →
    is_short sbf run u ≡ false
never_short sbf run u free = false_from_ne_true (is_short sbf run u) (λ h.
    let s = short_from sbf run u h in
    let e : s.start ≡ u - (u - s.start) = omega (arith, s.within) in
    free (u - s.start) (omega arith) (subst (λ w. ticks_in is_on run w (u - s.start) < sbf (u - s.start)) e s.few))
