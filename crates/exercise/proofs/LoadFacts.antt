-- The load of a sheet that a seed makes is at most one half.
use Rattle.std.proofs.Common.{◌≡◌, ℕ, add-zero, ◌+◌, ◌*◌, ◌/◌, ◌%◌, ◌<◌, ◌≤◌, ap, inl, inr, arith}
use Rattle.std.proofs.lemmas.Bool.{cases_lt, le-leb, lt-leb}
use Rattle.std.proofs.lemmas.Nat.{le-div}
use Rattle.std.proofs.Math.Nat.{mul-le-mul_left, mul-le-mul_right, mul-div-le}
use Rattle.curve.specs.Curves.{value_of, alpha_of, periodic}
use Rattle.task_sheet.specs.declared.tasks.Task.{Task}
use Rattle.task_sheet.specs.Sheets.{task_at}
use Rattle.exercise.specs.GeneratedSheet.{scale_of, cost_of, period_of, generated_task, generated_sheet}
use Rattle.exercise.proofs.WordFacts.{cost_high}
use Rattle.exercise.proofs.SheetFacts.{sheet_task}

value_most : (period t : ℕ) → value_of (periodic period) t ≤ 1
unfolding value_of
value_most period t = elim (cases_lt t 1) [
  | inl c ↦ rw (lt-leb 1 t c) (omega arith)
  | inr c ↦ rw (le-leb 1 t c) (omega arith)
]

-- one job in each period, and one more
pub alpha_most : (period d : ℕ) → alpha_of (periodic period) d ≤ d / period + 1
unfolding alpha_of
alpha_most period d = omega (arith, value_most period (d % period), mul-le-mul_left (d / period) (value_most period period))

pub task_cost : (seed n o : ℕ) → o < n → (task_at (generated_sheet seed n) o).cost ≡ cost_of seed o
unfolding generated_task
task_cost seed n o l = ap (λ (t : Task). t.cost) (sheet_task seed n o l)

pub task_curve : (seed n o : ℕ) → o < n → (task_at (generated_sheet seed n) o).curve ≡ periodic (period_of seed n o)
unfolding generated_task
task_curve seed n o l = ap (λ (t : Task). t.curve) (sheet_task seed n o l)

-- every job is released at its arrival
pub task_jitter : (seed n o : ℕ) → o < n → (task_at (generated_sheet seed n) o).jitter ≡ 0
unfolding generated_task
task_jitter seed n o l = ap (λ (t : Task). t.jitter) (sheet_task seed n o l)

regroup : (a b c : ℕ) → a * b * c ≡ c * a * b
regroup a b c = omega arith

-- the jobs of whole periods
share : (n scale cost q l : ℕ) → 1 ≤ n → cost ≤ scale → 2 * n * scale * q ≤ l → cost * q ≤ l / (2 * n)
share n scale cost q l some c h =
    let whole : scale * q * (2 * n) ≤ l = omega (arith, regroup scale q (2 * n)) in
    omega (arith, mul-le-mul_right q c, le-div (scale * q) l (2 * n) (omega arith) whole)

asks : (seed n o l : ℕ) → 1 ≤ n → cost_of seed o * alpha_of (periodic (period_of seed n o)) l ≤ l / (2 * n) + cost_of seed o
unfolding period_of
asks seed n o l some =
    let period : ℕ = 2 * n * scale_of seed o in
    let whole : period * (l / period) ≤ l = mul-div-le l period in
    let jobs : cost_of seed o * alpha_of (periodic period) l ≤ cost_of seed o * (l / period + 1) = mul-le-mul_left (cost_of seed o) (alpha_most period l) in
    omega (arith, share n (scale_of seed o) (cost_of seed o) (l / period) l some (cost_high seed o) whole)

-- what a task asks for in l ticks is at most its part of them, and one job
pub asks_most : (seed n o l : ℕ) → 1 ≤ n → o < n →
    (task_at (generated_sheet seed n) o).cost * alpha_of (task_at (generated_sheet seed n) o).curve
    (l + (task_at (generated_sheet seed n) o).jitter) ≤ l / (2 * n) + cost_of seed o
asks_most seed n o l some b = rw (task_cost seed n o b, task_curve seed n o b, task_jitter seed n o b, add-zero) (asks seed n o l some)
