-- What ceilings say of supplies.
use Rattle.std.proofs.Common.{◌≡◌, ℕ, suc, ◌+◌, ◌-◌, ◌*◌, ◌/◌, ◌%◌, ◌<◌, ◌≤◌, true, List, [], ◌∷◌, length, get_or, ap, max, inl, inr, arith}
use Rattle.std.proofs.lemmas.Bool.{cases_lt}
use Rattle.std.proofs.Math.Nat.{mul-le-mul_left, mul-le-mul_right}
use Rattle.lists.specs.Limits.{greatest_number}
use Rattle.task_sheet.specs.Rules.{rise_above}
use Rattle.task_sheet.specs.Sheets.{IsPromise}
use Rattle.task_sheet.specs.declared.tasks.SupplySpec.TheVariants.{Promised}
use Rattle.supply.specs.Promises.{count_of, promised}
use Rattle.supply.specs.Lawful.{test_holds, test_fails, rise_parts, count_none, facts_of}
use Rattle.supply.proofs.PromiseFacts.{count_all, time_within}
use Rattle.solver.specs.declared.ceilings.Ceiling.{Ceiling}
use Rattle.solver.specs.Ceilings.{IsCeiling, IsOver}
use Rattle.solver.specs.Loads.{scale}

-- the promise is at none of the first n times more than so many ticks above its rate, of which `before` times came already
abbrev pub IsSpare : ℕ → ℕ → List ℕ → ℕ → ℕ → ℕ → Type 0
IsSpare count horizon times before n spare = (j : ℕ) → j < n → (before + j + 1) * horizon ≤ count * get_or times j 0 + spare * horizon

-- and so nowhere, since it grows at its times alone
count_over : (count horizon spare r before low : ℕ) (times : List ℕ) → rise_above low times ≡ true → IsSpare count horizon times before (length times) spare →
    before * horizon ≤ count * r + spare * horizon → (before + count_of times r) * horizon ≤ count * r + spare * horizon
count_over count horizon spare r before low [] rise is at = omega (arith, at)
count_over count horizon spare r before low (t ∷ times) rise is at =
    let parts = rise_parts low t times rise in
    elim (cases_lt r t) [
      | inl early ↦
          let none : count_of (t ∷ times) r ≡ 0 = omega (arith, test_fails t r early, count_none times t r parts.1 (omega (arith, early))) in
          omega (arith, at, ap (λ (w : ℕ). (before + w) * horizon) none)
      | inr late ↦
          let first : (before + 1) * horizon ≤ count * t + spare * horizon = omega (arith, is 0 (omega arith)) in
          let next : (before + 1) * horizon ≤ count * r + spare * horizon = omega (arith, first, mul-le-mul_left count late) in
          let rest = count_over count horizon spare r (before + 1) t times parts.1 (λ j lt. omega (arith, is (suc j) (omega (arith, lt)))) next in
          let one : count_of (t ∷ times) r ≡ 1 + count_of times r = omega (arith, test_holds t r late) in
          omega (arith, rest, ap (λ (w : ℕ). (before + w) * horizon) one)
    ]

pub spare_everywhere : (horizon n spare : ℕ) (times : List ℕ) → IsPromise (Promised horizon times) → length times ≤ n →
    IsSpare (length times) horizon times 0 n spare → (r : ℕ) → count_of times r * horizon ≤ length times * r + spare * horizon
spare_everywhere horizon n spare times h all is r =
    let f = facts_of (record { horizon = horizon; times = times }) h in
    omega (arith, count_over (length times) horizon spare r 0 0 times f.rise (λ j lt. is j (omega (arith, lt, all))) (omega arith))

-- what comes by a time in as many ticks
pub product_high : (horizon k : ℕ) (times : List ℕ) → IsPromise (Promised horizon times) → k < length times →
    length times * get_or times k 0 ≤ 1000000000000
product_high horizon k times h in_range =
    let f = facts_of (record { horizon = horizon; times = times }) h in
    let time : get_or times k 0 ≤ greatest_number = omega (arith, time_within times 0 k f.rise in_range, f.last, f.high) in
    omega (arith, mul-le-mul_left (length times) time, f.few)

-- one time more
pub spare_more : (count horizon n spare more line : ℕ) (times : List ℕ) → 1 ≤ horizon → IsSpare count horizon times 0 n spare →
    line ≡ count * get_or times n 0 / horizon → more ≡ max spare (n + 1 - line) → IsSpare count horizon times 0 (n + 1) more
spare_more count horizon n spare more line times some is e greatest j lt = elim (cases_lt j n) [
  | inl before ↦
      let le : spare ≤ more = omega (arith, greatest) in
      omega (arith, is j before, mul-le-mul_right horizon le)
  | inr here ↦
      let at : n ≡ j = omega (arith, here, lt) in
      let under : horizon * line ≤ count * get_or times n 0 = omega (arith, ap (λ (w : ℕ). horizon * w) e) in
      let near : n + 1 ≤ line + more = omega (arith, greatest) in
      omega (arith, under, mul-le-mul_left horizon near, ap (λ (w : ℕ). (w + 1) * horizon) at, ap (λ (w : ℕ). count * get_or times w 0) at)
]

-- in further horizons as much as in the first
pub promise_over : (horizon spare : ℕ) (times : List ℕ) → IsPromise (Promised horizon times) →
    ((r : ℕ) → count_of times r * horizon ≤ length times * r + spare * horizon) → (d : ℕ) → promised horizon times d * horizon ≤ length times * d + spare * horizon
unfolding promised
promise_over horizon spare times h over d =
    let f = facts_of (record { horizon = horizon; times = times }) h in
    let positive : 0 < horizon = f.positive in
    let split : d ≡ d / horizon * horizon + d % horizon = omega arith in
    let all = count_all times 0 horizon f.rise f.last in
    omega (
      arith,
      over (d % horizon),
      ap (λ (w : ℕ). d / horizon * w * horizon) all,
      ap (λ (w : ℕ). length times * w) split,
    )

-- a ceiling in parts of a tick
pub over_parts : (sbf : ℕ → ℕ) (c : Ceiling) (climb l : ℕ) → IsCeiling c → IsOver sbf c → c.rate * scale ≤ climb * c.horizon →
    sbf l * scale ≤ climb * l + c.spare * scale
over_parts sbf c climb l is over enough = elim (cases_lt (climb * l + c.spare * scale) (sbf l * scale)) [
  | inr le ↦ le
  | inl more ↦
      absurd (omega (arith, is.horizon_low, mul-le-mul_left scale (over l), mul-le-mul_right l enough, mul-le-mul_left c.horizon more))
]
