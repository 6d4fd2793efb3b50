use Rattle.std.specs.Prelude.{◌≡◌, ℕ, zero, suc, ◌+◌, ◌-◌, ◌≤◌, ◌&&◌, List, [], ◌∷◌, ◌++◌, count_by, nat_le, nat_lt, if◌then◌else◌}
use Rattle.lists.specs.Sums.{max_below}
use Rattle.curve.specs.declared.prefix.Step.{Step}
use Rattle.curve.specs.CurveValue.{Curve}
use Rattle.curve.specs.Curves.{alpha_of}
use Rattle.curve.specs.Validity.{IsCurve}
use Rattle.run_model.specs.declared.run.Run.{Run}
use Rattle.schedule_laws.specs.Compliance.{arrivals_of}

-- how many of the times lie in [t, u)
unfoldable pub times_in : List ℕ → ℕ → ℕ → ℕ
times_in times t u = count_by (λ a. nat_le t a && nat_lt a u) times

-- in every window at most as many times lie as the curve says
abbrev pub Respects : List ℕ → Curve → Type 0
Respects times c = (t u : ℕ) → t ≤ u → times_in times t u ≤ alpha_of c (u - t)

-- the last time, which is the latest
abbrev pub last_of : ℕ → List ℕ → ℕ
last_of before [] = before
last_of before (t ∷ times) = last_of t times

-- the most times in any window of d ticks, whatever tick up to the last time it begins with
unfoldable pub most_of : List ℕ → ℕ → ℕ
most_of times d = max_below (λ t. times_in times t (t + d)) (last_of 0 times + 1)

-- a window of v ticks has n of the times, and no shorter one has
abbrev pub IsLeastLength : List ℕ → ℕ → ℕ → Type 0
IsLeastLength times n v = (d : ℕ) → ((n ≤ most_of times d → v ≤ d) × (v ≤ d → n ≤ most_of times d))

-- the same up to the horizon, and the tick after the horizon where no such window has n of the times
pub record IsNextRise (times : List ℕ) (n horizon v : ℕ) : Type 0 where
  pub within : v ≤ horizon + 1
  pub soon : (d : ℕ) → d ≤ horizon → n ≤ most_of times d → v ≤ d
  pub there : (d : ℕ) → d ≤ horizon → v ≤ d → n ≤ most_of times d

-- a step with its new value at each of the numbers 1, .., n at which f is greater than just before
abbrev pub steps_to : (ℕ → ℕ) → ℕ → List Step
steps_to f zero = []
steps_to f (suc n) = if nat_lt (f n) (f (suc n)) then steps_to f n ++ (record { time = suc n; value = f (suc n) } ∷ []) else steps_to f n

-- the curve of a trace
abbrev pub inferred_curve : List ℕ → ℕ → Curve
inferred_curve times horizon = record { horizon = horizon; steps = steps_to (most_of times) horizon }

-- no valid curve with the same horizon that the trace respects is smaller anywhere
abbrev pub IsLeastCurve : List ℕ → Curve → Type 0
IsLeastCurve times c = (other : Curve) → IsCurve other → other.horizon ≡ c.horizon → Respects times other → (d : ℕ) → alpha_of c d ≤ alpha_of other d

-- at each tick as many jobs of task o arrive as times stand there
abbrev pub ArriveAs : Run → ℕ → List ℕ → Type 0
ArriveAs run o times = (t : ℕ) → arrivals_of run o t (t + 1) ≡ times_in times t (t + 1)

-- a task whose jobs arrive at these times keeps within the curve, in every window of every run
abbrev pub KeepsCurves : List ℕ → Curve → Type 0
KeepsCurves times c = (run : Run) (o : ℕ) → ArriveAs run o times → (t u : ℕ) → t ≤ u → arrivals_of run o t u ≤ alpha_of c (u - t)
