use Rattle.std.proofs.Common.{◌≡◌, ◌≢◌, ℕ, zero, suc, ◌+◌, ◌*◌, ◌^◌, ◌≤◌, ◌<◌, ◌==◌, Bool, true, false, cond, List, length, set, ap, inl, inr, arith}
use Rattle.std.proofs.lemmas.Bool.{cases_lt}
use Rattle.std.proofs.lemmas.List.{get_or-set_same, get_or-set_other}
use Rattle.std.proofs.Math.Nat.{mul-le-mul_left}
use Rattle.lists.specs.Sums.{sum_below}
use Rattle.lists.proofs.SumFacts.{sum_same, sum_bound}
use Rattle.curve.specs.CurveValue.{Curve}
use Rattle.curve.specs.Validity.{IsCurve}
use Rattle.curve.specs.declared.prefix.Stair.{Stair}
use Rattle.curve.specs.Stairs.{IsStair}
use Rattle.curve.proofs.CurveFacts.{alpha_bound}
use Rattle.task_sheet.specs.declared.tasks.Task.{Task}
use Rattle.task_sheet.specs.SheetParts.{SheetParts}
use Rattle.task_sheet.specs.Sheets.{task_at, IsTask, IsValidSheet}
use Rattle.policy.specs.declared.keys.Cap.{Cap}
use Rattle.policy.specs.declared.keys.Cap.TheVariants.{Nothing, At, All}
use Rattle.policy.specs.PolicyMeaning.{PolicyMeaning}
use Rattle.meter.specs.declared.tracks.Place.{Place}
use Rattle.meter.specs.Places.{no_place, place_of, kind_of, counted_of, part_of, asked_of, IsSmall, IsNear, AreNear}

stair_bound : (c : Curve) → IsCurve c → (s : Stair) (d : ℕ) → IsStair c s d → s.value ≤ (d + 1) * 1000000
stair_bound c ok s d stair = omega (arith, stair.flat d stair.begun stair.open_yet, alpha_bound c ok d)

pub small : (task : Task) → IsTask task → (place : Place) → IsNear task place → IsSmall place
small task ok place near = record {
  value = omega (arith, stair_bound task.curve ok.curve place.end near.at near.stair, near.near);
  count = near.count_high;
}

-- one term of a sum changed
pub sum_changed : (f g : ℕ → ℕ) (n m : ℕ) → m < n → ((k : ℕ) → k < n → k ≢ m → g k ≡ f k) → sum_below g n + f m ≡ sum_below f n + g m
sum_changed f g zero m b h = absurd (omega arith)
sum_changed f g (suc n) m b h = elim (cases_lt m n) [
  | inl c ↦ omega (arith, sum_changed f g n m c (λ k l. h k (omega arith)), h n (omega arith) (λ e. omega arith))
  | inr c ↦
      let e : m ≡ n = omega arith in
      omega (arith, sum_same g f n (λ k l. h k (omega arith) (λ w. omega arith)), ap f e, ap g e)
]

-- a task asks for no more than all together
sum_term : (f : ℕ → ℕ) (n m : ℕ) → m < n → f m ≤ sum_below f n
sum_term f zero m b = absurd (omega arith)
sum_term f (suc n) m b = elim (cases_lt m n) [
  | inl c ↦ omega (arith, sum_term f n m c)
  | inr c ↦ let e : m ≡ n = omega arith in omega (arith, ap f e)
]

module _ (p : PolicyMeaning) (sheet : SheetParts) (i : ℕ) (places : List Place) where
  pub asked_le : (o : ℕ) → o < length sheet.tasks → asked_of p sheet i places o ≤ sum_below (asked_of p sheet i places) (length sheet.tasks)
  asked_le o b = sum_term (asked_of p sheet i places) (length sheet.tasks) o b

  -- what all ask for, one of them put at another place
  pub sum_put : AreNear sheet places → (o : ℕ) → o < length sheet.tasks → (place : Place) →
      sum_below (asked_of p sheet i (set places o place)) (length sheet.tasks) + asked_of p sheet i places o ≡ sum_below
      (asked_of p sheet i places) (length sheet.tasks) + part_of p sheet i o place
  sum_put near o b place = omega (
    arith,
    sum_changed (asked_of p sheet i places) (asked_of p sheet i (set places o place)) (length sheet.tasks) o b
        (λ k l ne. ap (part_of p sheet i k) (get_or-set_other places o k place no_place ne)),
    ap (part_of p sheet i o) (get_or-set_same places o place no_place (omega (arith, near.count))),
  )

counted_le : (kind : Cap) (place : Place) → counted_of kind place ≤ place.end.value
counted_le Nothing place = omega arith
counted_le (At c) place = omega arith
counted_le All place = omega arith

chosen_high : (b : Bool) (m n : ℕ) → m ≤ 5000000000000000 → n ≤ 5000000000000000 → cond b m n ≤ 5000000000000000
chosen_high true m n h l = h
chosen_high false m n h l = l

pub part_high : (p : PolicyMeaning) (sheet : SheetParts) → IsValidSheet sheet → (i o : ℕ) → o < length sheet.tasks →
    (place : Place) → IsSmall place → part_of p sheet i o place ≤ 2 ^ 83
part_high p sheet ok i o b place is =
    let jobs = chosen_high (o == i) place.count (counted_of (kind_of p sheet i o) place) is.count
    (omega (arith, counted_le (kind_of p sheet i o) place, is.value)) in
    omega (arith, mul-le-mul_left (task_at sheet o).cost jobs, (ok.each o b).cost_high)

pub sum_high : (p : PolicyMeaning) (sheet : SheetParts) → IsValidSheet sheet → (i : ℕ) (places : List Place) →
    AreNear sheet places → sum_below (asked_of p sheet i places) (length sheet.tasks) ≤ 2 ^ 91
sum_high p sheet ok i places near = omega (
  arith,
  sum_bound (asked_of p sheet i places) (2 ^ 83) (length sheet.tasks)
      (λ o b. part_high p sheet ok i o b (place_of places o) (small (task_at sheet o) (ok.each o b) (place_of places o) (near.each o b))),
  ok.few,
)
