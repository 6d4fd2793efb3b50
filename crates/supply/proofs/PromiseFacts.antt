use Rattle.std.proofs.Common.{◌≡◌, ℕ, zero, suc, ◌+◌, ◌-◌, ◌*◌, ◌/◌, ◌%◌, ◌<◌, ◌≤◌, ◌≢◌, true, List, [], ◌∷◌, length, get_or, refl, ap, subst, inl}
use Rattle.std.proofs.Common.{inr, arith, add-one}
use Rattle.std.proofs.lemmas.Bool.{cases_lt}
use Rattle.std.proofs.lemmas.Nat.{div-mul-add, div-add-mod'}
use Rattle.std.proofs.Math.Nat.{mul-le-mul_left}
use Rattle.std.specs.List.Sorted.{IsNonDecreasingBy}
use Rattle.std.proofs.lemmas.List.Sorted.{IsNonDecreasingBy-from_default}
use Rattle.lists.specs.Searches.{IsLeast}
use Rattle.task_sheet.specs.Rules.{rise_above, last_number}
use Rattle.task_sheet.specs.Sheets.{IsPromise}
use Rattle.task_sheet.specs.declared.tasks.SupplySpec.TheVariants.{Promised}
use Rattle.supply.specs.Promises.{count_of, promised}
use Rattle.supply.specs.Lawful.{test_holds, test_fails, rise_parts, count_none, Facts, facts_of, promised_zero, promised_step}

pub last_above : (times : List ℕ) (low : ℕ) → rise_above low times ≡ true → low ≤ last_number low times
last_above [] low rise = omega arith
last_above (t ∷ times) low rise =
    let parts = rise_parts low t times rise in
    omega (arith, parts.0, last_above times t parts.1)

-- all times are at most the last
pub count_all : (times : List ℕ) (low most : ℕ) → rise_above low times ≡ true → last_number low times ≤ most → count_of times most ≡ length times
count_all [] low most rise h = refl
count_all (t ∷ times) low most rise h =
    let parts = rise_parts low t times rise in
    let first = last_above times t parts.1 in
    omega (arith, test_holds t most (omega (arith, first, h)), count_all times t most parts.1 h)

pub later_time : (times : List ℕ) (low r : ℕ) → rise_above low times ≡ true → r < length times → low < get_or times r 0
later_time [] low r rise h = absurd (omega arith)
later_time (t ∷ times) low zero rise h = (rise_parts low t times rise).0
later_time (t ∷ times) low (suc r) rise h =
    let parts = rise_parts low t times rise in
    omega (arith, parts.0, later_time times t r parts.1 (omega arith))

pub times_rise : (times : List ℕ) (low i j : ℕ) → rise_above low times ≡ true → i ≤ j → j < length times → get_or times i 0 ≤ get_or times j 0
times_rise [] low i j rise h l = absurd (omega arith)
times_rise (t ∷ times) low zero zero rise h l = omega arith
times_rise (t ∷ times) low (suc i) zero rise h l = absurd (omega arith)
times_rise (t ∷ times) low zero (suc j) rise h l = omega (arith, later_time times t j (rise_parts low t times rise).1 (omega arith))
times_rise (t ∷ times) low (suc i) (suc j) rise h l = times_rise times t i j (rise_parts low t times rise).1 (omega arith) (omega arith)

-- so the times can be searched
pub times_sorted : (times : List ℕ) → rise_above 0 times ≡ true → IsNonDecreasingBy (λ t. t) times
times_sorted times rise = IsNonDecreasingBy-from_default (λ t. t) times 0 (λ i j h l. times_rise times 0 i j rise h l)

-- where the first n times are at most r, and no other, n are
pub count_split : (times : List ℕ) (r n : ℕ) → n ≤ length times → ((k : ℕ) → k < n → get_or times k 0 ≤ r) →
    ((k : ℕ) → n ≤ k → k < length times → r < get_or times k 0) → count_of times r ≡ n
count_split [] r n within early late = omega (arith, within)
count_split (t ∷ times) r zero within early late =
    omega (
      arith,
      test_fails t r (late 0 (omega arith) (omega arith)),
      count_split times r 0 (omega arith) (λ k h. absurd (omega (arith, h))) (λ k h l. late (suc k) (omega arith) (omega (arith, l))),
    )
count_split (t ∷ times) r (suc n) within early late =
    omega (
      arith,
      test_holds t r (early 0 (omega arith)),
      count_split times r n (omega (arith, within)) (λ k h. early (suc k) (omega (arith, h))) (λ k h l. late (suc k) (omega (arith, h)) (omega (arith, l))),
    )

-- the time with number r is the one at which the count becomes r + 1
pub count_there : (times : List ℕ) (low r : ℕ) → rise_above low times ≡ true → r < length times → count_of times (get_or times r 0) ≡ r + 1
count_there [] low r rise h = absurd (omega arith)
count_there (t ∷ times) low zero rise h =
    let parts = rise_parts low t times rise in
    omega (arith, test_holds t t (omega arith), count_none times t t parts.1 (omega arith))
count_there (t ∷ times) low (suc r) rise h =
    let parts = rise_parts low t times rise in
    let later = later_time times t r parts.1 (omega arith) in
    omega (arith, test_holds t (get_or times r 0) (omega (arith, later)), count_there times t r parts.1 (omega arith))

pub count_before : (times : List ℕ) (low r : ℕ) → rise_above low times ≡ true → r < length times → count_of times (get_or times r 0 - 1) ≡ r
count_before [] low r rise h = absurd (omega arith)
count_before (t ∷ times) low zero rise h =
    let parts = rise_parts low t times rise in
    omega (arith, test_fails t (t - 1) (omega (arith, parts.0)), count_none times t (t - 1) parts.1 (omega arith))
count_before (t ∷ times) low (suc r) rise h =
    let parts = rise_parts low t times rise in
    let later = later_time times t r parts.1 (omega arith) in
    omega (arith, test_holds t (get_or times r 0 - 1) (omega (arith, later)), count_before times t r parts.1 (omega arith))

pub time_within : (times : List ℕ) (low r : ℕ) → rise_above low times ≡ true → r < length times → get_or times r 0 ≤ last_number low times
time_within [] low r rise h = absurd (omega arith)
time_within (t ∷ times) low zero rise h = last_above times t (rise_parts low t times rise).1
time_within (t ∷ times) low (suc r) rise h = time_within times t r (rise_parts low t times rise).1 (omega arith)

module _ (horizon : ℕ) (times : List ℕ) (f : Facts horizon times) where
  -- no window has more supplied ticks than ticks
  pub promised_le : (d : ℕ) → promised horizon times d ≤ d
  promised_le zero = omega (arith, promised_zero horizon times f)
  promised_le (suc d) = rw (← add-one d) (omega (arith, promised_le d, (promised_step horizon times f d).1))

  promised_parts : (q t : ℕ) → t < horizon → promised horizon times (q * horizon + t) ≡ q * length times + count_of times t
  unfolding promised
  promised_parts q t h =
      let whole : (q * horizon + t) / horizon ≡ q = div-mul-add q horizon t h in
      let rest : (q * horizon + t) % horizon ≡ t = omega (arith, div-add-mod' (q * horizon + t) horizon, ap (λ (w : ℕ). w * horizon) whole) in
      let all = count_all times 0 horizon f.rise f.last in
      omega (arith, ap (λ (w : ℕ). w * count_of times horizon) whole, ap (count_of times) rest, ap (λ (w : ℕ). q * w) all)

  promised_mono : (d e : ℕ) → d ≤ e → promised horizon times d ≤ promised horizon times e
  promised_mono d zero h = let z : d ≡ 0 = omega arith in omega (arith, ap (promised horizon times) z)
  promised_mono d (suc e) h = elim (cases_lt d (suc e)) [
    | inl c ↦ rw (← add-one e) (omega (arith, promised_mono d e (omega arith), (promised_step horizon times f e).0))
    | inr c ↦ let z : d ≡ suc e = omega arith in omega (arith, ap (promised horizon times) z)
  ]

  -- the last time of a horizon ends it
  promised_at : (q r : ℕ) → r < length times → promised horizon times (q * horizon + get_or times r 0) ≡ q * length times + r + 1
  promised_at q r h =
      let within = time_within times 0 r f.rise h in
      let there = count_there times 0 r f.rise h in
      elim (cases_lt (get_or times r 0) horizon) [
        | inl c ↦ omega (arith, promised_parts q (get_or times r 0) c, there)
        | inr c ↦
            let ends : get_or times r 0 ≡ horizon = omega (arith, within, f.last) in
            let all = count_all times 0 horizon f.rise f.last in
            let next : q * horizon + get_or times r 0 ≡ (q + 1) * horizon + 0 = omega (arith, ends) in
            omega (
              arith,
              ap (promised horizon times) next,
              promised_parts (q + 1) 0 f.positive,
              count_none times 0 0 f.rise (omega arith),
              all,
              there,
              ap (count_of times) ends,
            )
      ]

  -- the first window with a tick more than w: some whole horizons, and a time
  pub least_is : (w : ℕ) → (q r : ℕ) → w ≡ q * length times + r → r < length times →
      IsLeast (λ d. w + 1 ≤ promised horizon times d) (q * horizon + get_or times r 0)
  least_is w q r e h =
      let first = later_time times 0 r f.rise h in
      let within = time_within times 0 r f.rise h in
      record {
        holds = omega (arith, promised_at q r h, e);
        least = λ k enough. elim (cases_lt k (q * horizon + get_or times r 0)) [
          | inr c ↦ c
          | inl c ↦ absurd (omega (
            arith,
            enough,
            e,
            promised_mono k (q * horizon + (get_or times r 0 - 1))
                (omega (arith, first)),
            promised_parts q (get_or times r 0 - 1) (omega (arith, first, within, f.last)),
            count_before times 0 r f.rise h,
          ))
        ];
      }

-- the least window for v ticks, from the whole horizons before it and a time
pub record IsReached (horizon : ℕ) (times : List ℕ) (v : ℕ) : Type 0 where
  pub first : IsLeast (λ d. v ≤ promised horizon times d) ((v - 1) / length times * horizon + get_or times ((v - 1) % length times) 0)
  pub late : (v - 1) / length times < (v - 1) / length times * horizon + get_or times ((v - 1) % length times) 0

pub reached : (horizon : ℕ) (times : List ℕ) (v : ℕ) → IsPromise (Promised horizon times) → v ≢ 0 → IsReached horizon times v
reached horizon times v h some =
    let f = facts_of (record { horizon = horizon; times = times }) h in
    let count = f.some in
    let w = v - 1 in
    let within : w % length times < length times = omega arith in
    let e : w + 1 ≡ v = omega arith in
    record {
      first = subst (λ (u : ℕ). IsLeast (λ d. u ≤ promised horizon times d) (w / length times * horizon + get_or times (w % length times) 0)) e
          (least_is horizon times f w (w / length times) (w % length times) (omega (arith, div-add-mod' w (length times))) within);
      late = omega (arith, later_time times 0 (w % length times) f.rise within, mul-le-mul_left (w / length times) f.positive);
    }

-- all times come in each whole horizon
pub promised_counts : (horizon : ℕ) (times : List ℕ) (d : ℕ) → IsPromise (Promised horizon times) →
    (d / horizon) * length times + count_of times (d % horizon) ≡ promised horizon times d
unfolding promised
promised_counts horizon times d h =
    let f = facts_of (record { horizon = horizon; times = times }) h in
    omega (arith, ap (λ (w : ℕ). d / horizon * w) (count_all times 0 horizon f.rise f.last))

-- no product or sum of a window's supply is above the window
pub product_le : (horizon : ℕ) (times : List ℕ) (d : ℕ) → IsPromise (Promised horizon times) → (d / horizon) * length times + count_of times (d % horizon) ≤ d
product_le horizon times d h =
    omega (arith, promised_counts horizon times d h, promised_le horizon times (facts_of (record { horizon = horizon; times = times }) h) d)
