-- Every task of a sheet that a seed makes has a small window.
use Rattle.std.proofs.Common.{◌≡◌, ℕ, zero, suc, ◌+◌, ◌-◌, ◌*◌, ◌/◌, ◌<◌, ◌≤◌, ◌==◌, ◌&&◌, Bool, true, false, not, cond, refl, inl, inr, arith}
use Rattle.std.specs.Prelude.{nat_lt}
use Rattle.std.proofs.lemmas.Bool.{cases_lt}
use Rattle.std.proofs.Math.Nat.{mul-div-le}
use Rattle.lists.specs.Sums.{sum_below, max_below}
use Rattle.lists.specs.Searches.{IsLeast}
use Rattle.lists.proofs.SumFacts.{sum_le, sum_bound, sum_add}
use Rattle.lists.proofs.SearchFacts.{least_true}
use Rattle.task_sheet.specs.SheetParts.{SheetParts}
use Rattle.task_sheet.specs.Sheets.{task_at}
use Rattle.policy.specs.Policies.{edf_meaning}
use Rattle.preemption.specs.Kinds.{per_task_meaning}
use Rattle.demand.specs.Demand.{delay_of, class_part_of, window_need_of}
use Rattle.demand.specs.Meeting.{IsWindow}
use Rattle.conditions.specs.Conditions.{is_window}
use Rattle.conditions.proofs.MeetFacts.{window_means, window_true}
use Rattle.exercise.specs.GeneratedSheet.{cost_of, generated_sheet}
use Rattle.exercise.proofs.WordFacts.{cost_low, cost_high, scale_high}
use Rattle.exercise.proofs.SheetFacts.{sheet_count}
use Rattle.exercise.proofs.LoadFacts.{task_jitter, asks_most}

never : (a b : Bool) (x : ℕ) → cond {A = ℕ} (a && (b && false)) x 0 ≡ 0
never true true x = refl
never true false x = refl
never false b x = refl

-- a task delays the window only where jobs are released late
delays_not : (seed n i o : ℕ) → i < n → o < n → delay_of edf_meaning per_task_meaning (generated_sheet seed n) i o ≡ 0
delays_not seed n i o b c =
    let sheet : SheetParts = generated_sheet seed n in
    rw (task_jitter seed n i b, task_jitter seed n o c)
    (never (not (o == i)) (nat_lt (task_at sheet i).deadline ((task_at sheet o).deadline + 0)) (per_task_meaning.longest (task_at sheet o) - 1))

no_delay : (seed n i k : ℕ) → i < n → k ≤ n → max_below (delay_of edf_meaning per_task_meaning (generated_sheet seed n) i) k ≡ 0
no_delay seed n i zero b h = refl
no_delay seed n i (suc k) b h = omega (arith, no_delay seed n i k b (omega arith), delays_not seed n i k b (omega arith))

-- the sum of all costs
abbrev pub costs_of : ℕ → ℕ → ℕ
costs_of seed n = sum_below (cost_of seed) n

pub costs_low : (seed n : ℕ) → n ≤ costs_of seed n
costs_low seed zero = omega arith
costs_low seed (suc n) = omega (arith, costs_low seed n, cost_low seed n)

pub costs_high : (seed n : ℕ) → costs_of seed n ≤ n * 50
costs_high seed n = sum_bound (cost_of seed) 50 n (λ k b. omega (arith, cost_high seed k, scale_high seed k))

class_most : (seed n i l : ℕ) → 1 ≤ n → sum_below (class_part_of edf_meaning (generated_sheet seed n) i l) n ≤ n * (l / (2 * n)) + costs_of seed n
class_most seed n i l some =
    omega (
      arith,
      sum_le (class_part_of edf_meaning (generated_sheet seed n) i l) (λ o. l / (2 * n) + cost_of seed o) n (λ o b. asks_most seed n o l some b),
      sum_add (λ o. l / (2 * n)) (cost_of seed) n,
      sum_bound (λ o. l / (2 * n)) (l / (2 * n)) n (λ o b. omega arith),
    )

-- twice the sum of all costs is a window
need_fits : (seed n i : ℕ) → i < n → window_need_of edf_meaning per_task_meaning (generated_sheet seed n) i (2 * costs_of seed n) ≤ 2 * costs_of seed n
unfolding window_need_of
need_fits seed n i b =
    rw (sheet_count seed n)
    (omega (arith, no_delay seed n i n b (omega arith), class_most seed n i (2 * costs_of seed n) (omega arith), mul-div-le (2 * costs_of seed n) (2 * n)))

-- the least window, which is small
pub record HasWindow (seed n i : ℕ) : Type 0 where
  pub window : ℕ
  pub small : window ≤ 6400
  pub least : IsLeast (IsWindow edf_meaning per_task_meaning (λ d. d) (generated_sheet seed n) i) window

pub has_window : (seed n i : ℕ) → i < n → n ≤ 64 → HasWindow seed n i
has_window seed n i b few =
    let sheet : SheetParts = generated_sheet seed n in
    let l : ℕ = 2 * costs_of seed n in
    let fits : IsWindow edf_meaning per_task_meaning (λ d. d) sheet i l =
    record { positive = omega (arith, costs_low seed n); enough = need_fits seed n i b } in
    let found = least_true (is_window edf_meaning per_task_meaning (λ d. d) sheet i) l (window_true edf_meaning per_task_meaning (λ d. d) sheet i l fits) in
    record {
      window = found.0;
      small = omega (arith, found.1, costs_high seed n);
      least = record {
        holds = window_means edf_meaning per_task_meaning (λ d. d) sheet i found.0 found.2;
        least = λ k w. elim (cases_lt k found.0) [
          | inl c ↦ let f = found.3 k c in let t = window_true edf_meaning per_task_meaning (λ d. d) sheet i k w in absurd (cc)
          | inr c ↦ c
        ];
      };
    }
