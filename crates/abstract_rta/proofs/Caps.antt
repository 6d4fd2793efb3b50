-- For step "Service at the end" of docs/ANALYSIS.md: what a cap admits, and the greatest of the numbers that pass.
use Rattle.std.proofs.Common.{◌≡◌, ℕ, ◌+◌, ◌-◌, ◌*◌, ◌<◌, ◌≤◌, min, Bool, true, false, cond, ap, arith}
use Rattle.std.specs.Prelude.{ℤ, pos, negsuc, ◌<ℤ◌, ◌+ℤ◌}
use Rattle.std.proofs.lemmas.Int.{ints}
use Rattle.std.proofs.Math.Nat.{mul-le-mul_left}
use Rattle.lists.specs.Sums.{max_below}
use Rattle.lists.proofs.SumFacts.{max_at_least}
use Rattle.curve.specs.CurveValue.{Curve}
use Rattle.curve.specs.Curves.{alpha_of}
use Rattle.curve.specs.Validity.{IsCurve}
use Rattle.curve.proofs.CurveFacts.{alpha_zero}
use Rattle.policy.specs.declared.keys.Cap.{Cap}
use Rattle.policy.specs.declared.keys.Cap.TheVariants.{Nothing, At, All}
use Rattle.policy.specs.Keys.{not_below_zero}
use Rattle.policy.specs.PolicyLaws.{Admits}
use Rattle.demand.specs.Demand.{capped_count}

-- how long a window of arrivals the cap leaves of x ticks of releases: it begins by the jitter before them
abbrev pub cap_window : Cap → ℕ → ℕ → ℕ
cap_window Nothing jitter x = 0
cap_window (At c) jitter x = min (x + jitter) (not_below_zero c)
cap_window All jitter x = x + jitter

admitted_number : (c : ℤ) (start jitter arrival x : ℕ) → pos (arrival + jitter) <ℤ (pos start +ℤ c) →
    start ≤ arrival + jitter → arrival < start + x → arrival < start - jitter + min (x + jitter) (not_below_zero c)
admitted_number (pos c) start jitter arrival x h l b = omega (arith, ints)
admitted_number (negsuc c) start jitter arrival x h l b = omega (arith, ints)

-- what the cap admits of the jobs that arrive before the x ticks end arrives in that window
pub admitted : (c : Cap) (start jitter arrival x : ℕ) → Admits c start (arrival + jitter) →
    start ≤ arrival + jitter → arrival < start + x → arrival < start - jitter + cap_window c jitter x
admitted Nothing start jitter arrival x h l b = absurd h
admitted (At c) start jitter arrival x h l b = admitted_number c start jitter arrival x h l b
admitted All start jitter arrival x h l b = omega arith

count_within : (curve : Curve) → IsCurve curve → (jitter : ℕ) (c : Cap) (x : ℕ) →
    alpha_of curve (cap_window c jitter x) ≤ capped_count curve jitter c x
count_within curve ok jitter Nothing x = omega (arith, alpha_zero curve ok)
count_within curve ok jitter (At c) x = omega arith
count_within curve ok jitter All x = omega arith

-- the demand of one task in a window that another has, or has not
pub windowed : (b : Bool) (curve : Curve) → IsCurve curve → (c l : ℕ) →
    c * alpha_of curve (cond b l 0) ≤ cond b (c * alpha_of curve l) 0
windowed true curve ok c l = omega arith
windowed false curve ok c l = omega (arith, ap (λ (w : ℕ). c * w) (alpha_zero curve ok))

pub masked : (b : Bool) (curve : Curve) → IsCurve curve → (cost own jitter x : ℕ) (c : Cap) →
    cond b 0 (cost * alpha_of curve (cond b own (cap_window c jitter x))) ≤ cond b 0 (cost * capped_count curve jitter c x)
masked true curve ok cost own jitter x c = omega arith
masked false curve ok cost own jitter x c = mul-le-mul_left cost (count_within curve ok jitter c x)

-- the greatest number of those that pass is at least each of them
pub most_at : (test : ℕ → Bool) (f : ℕ → ℕ) (n o : ℕ) → o < n → test o ≡ true →
    f o ≤ max_below (λ o. cond (test o) (f o) 0) n
most_at test f n o b t = omega (arith, max_at_least (λ o. cond (test o) (f o) 0) n o b, ap (λ (b : Bool). cond b (f o) 0) t)
