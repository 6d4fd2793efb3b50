-- proofs of the laws; nothing here is to be believed
use Rattle.std.proofs.Common.{◌≡◌, ℕ, ◌+◌, ◌*◌, ◌/◌, ◌%◌, ◌<◌, ◌≤◌, ◌⊎◌, Bool, true, cond, List, [], ◌∷◌, length, leb, ltb, refl, ap, inl, inr, arith}
use Rattle.std.proofs.lemmas.Bool.{cases_lt, cases_order, and_parts, leb-true, ltb-true}
use Rattle.std.proofs.lemmas.Bool.Decides.{nat_tests}
use Rattle.std.proofs.Math.Nat.{mul-le-mul_left}
use Rattle.lists.specs.Limits.{greatest_number, most_parts}
use Rattle.curve.proofs.CurveFacts.{digits_mono}
use Rattle.task_sheet.specs.Rules.{rise_above, last_number}
use Rattle.task_sheet.specs.SheetParts.{SheetParts}
use Rattle.task_sheet.specs.Sheets.{IsPromise, IsValidSheet}
use Rattle.task_sheet.specs.declared.tasks.SupplySpec.{SupplySpec}
use Rattle.task_sheet.specs.declared.tasks.SupplySpec.TheVariants.{Unit as Whole, Promised}
use Rattle.supply.specs.PromiseParts.{PromiseParts}
use Rattle.supply.specs.Promises.{count_of, promised, sbf_of}
use Rattle.supply.specs.Supplies.{IsPromised, promised_by}

-- every tick: no window of d + 1 ticks has fewer than one of d ticks, or two more
pub whole_grows : (d : ℕ) → (d ≤ d + 1) × (d + 1 ≤ d + 1)
whole_grows d = (omega arith, omega arith)

test_grows : (t r s : ℕ) → r ≤ s → cond (leb t r) 1 0 ≤ cond (leb t s) 1 0
test_grows t r s h = grind (arith, nat_tests)

pub count_mono : (times : List ℕ) (r s : ℕ) → r ≤ s → count_of times r ≤ count_of times s
count_mono [] r s h = omega arith
count_mono (t ∷ times) r s h = omega (arith, test_grows t r s h, count_mono times r s h)

pub test_fails : (t r : ℕ) → r < t → cond {A = ℕ} (leb t r) 1 0 ≡ 0
test_fails t r h = grind (arith, nat_tests)

pub test_holds : (t r : ℕ) → t ≤ r → cond {A = ℕ} (leb t r) 1 0 ≡ 1
test_holds t r h = grind (arith, nat_tests)

-- a rising list, apart
pub rise_parts : (low t : ℕ) (times : List ℕ) → rise_above low (t ∷ times) ≡ true → (low < t) × (rise_above t times ≡ true)
rise_parts low t times rise =
    let parts = and_parts (ltb low t) (rise_above t times) rise in
    (ltb-true low t parts.0, parts.1)

-- no time is at or before the one from which they rise
pub count_none : (times : List ℕ) (low r : ℕ) → rise_above low times ≡ true → r ≤ low → count_of times r ≡ 0
count_none [] low r rise h = refl
count_none (t ∷ times) low r rise h =
    let parts = rise_parts low t times rise in
    omega (arith, test_fails t r (omega (arith, parts.0)), count_none times t r parts.1 (omega (arith, parts.0)))

test_at_most : (b : Bool) → cond b 1 0 ≤ 1
test_at_most b = grind arith

pub count_step : (times : List ℕ) (low r : ℕ) → rise_above low times ≡ true → count_of times (r + 1) ≤ count_of times r + 1
count_step [] low r rise = omega arith
count_step (t ∷ times) low r rise =
    let parts = rise_parts low t times rise in
    elim (cases_lt r t) [
      | inl after ↦ omega (arith, test_at_most (leb t (r + 1)), count_none times t (r + 1) parts.1 (omega (arith, after)))
      | inr before ↦ omega (arith, test_holds t (r + 1) (omega (arith, before)), test_holds t r before, count_step times t r parts.1)
    ]

-- what a promise says, as facts
pub record Facts (horizon : ℕ) (times : List ℕ) : Type 0 where
  pub positive : 0 < horizon
  pub high : horizon ≤ greatest_number
  pub some : 1 ≤ length times
  pub few : length times ≤ most_parts
  pub rise : rise_above 0 times ≡ true
  pub last : last_number 0 times ≤ horizon

pub facts_of : (p : PromiseParts) → IsPromised p → Facts p.horizon p.times
facts_of p h =
    let counts = and_parts _ _ (and_parts _ _ h.2).0 in
    let parts = and_parts _ _ h.3 in
    record {
      positive = h.0;
      high = h.1;
      some = leb-true 1 (length p.times) counts.0;
      few = leb-true (length p.times) most_parts counts.1;
      rise = parts.0;
      last = leb-true (last_number 0 p.times) p.horizon parts.1;
    }

digit_step : (n d : ℕ) → 0 < n → (((d + 1) / n ≡ d / n) × ((d + 1) % n ≡ d % n + 1)) ⊎ (((d + 1) / n ≡ d / n + 1) × ((d + 1) % n ≡ 0) × (d % n + 1 ≡ n))
digit_step n d p = elim (digits_mono n d (d + 1) p (omega arith)) [
  | inl s ↦ inl (omega (arith, s.0), omega (arith, ap (λ (w : ℕ). n * w) s.0))
  | inr s ↦ elim (cases_order ((d + 1) / n) (d / n + 1)) [
    | inl e ↦ inr (e, omega (arith, ap (λ (w : ℕ). n * w) e), omega (arith, ap (λ (w : ℕ). n * w) e))
    | inr (inl l) ↦ absurd (omega (arith, l, s))
    | inr (inr m) ↦ absurd (omega (arith, mul-le-mul_left n m))
  ]
]

module _ (horizon : ℕ) (times : List ℕ) (f : Facts horizon times) where
  pub promised_zero : promised horizon times 0 ≡ 0
  unfolding promised
  promised_zero =
      let p = f.positive in
      let q : 0 / horizon ≡ 0 = omega arith in
      let r : 0 % horizon ≡ 0 = omega arith in
      omega (arith, ap (λ (w : ℕ). w * count_of times horizon) q, ap (count_of times) r, count_none times 0 0 f.rise (omega arith))

  pub promised_step : (d : ℕ) → (promised horizon times d ≤ promised horizon times (d + 1)) × (promised horizon times (d + 1) ≤ promised horizon times d + 1)
  unfolding promised
  promised_step d = elim (digit_step horizon d f.positive) [
    | inl s ↦
        let q = ap (λ (w : ℕ). w * count_of times horizon) s.0 in
        let r = ap (count_of times) s.1 in
        (omega (arith, q, r, count_mono times (d % horizon) (d % horizon + 1) (omega arith)), omega (arith, q, r, count_step times 0 (d % horizon) f.rise))
    | inr s ↦
        let q = ap (λ (w : ℕ). w * count_of times horizon) s.0 in
        let r = ap (count_of times) s.1 in
        let z = count_none times 0 0 f.rise (omega arith) in
        let top = ap (count_of times) s.2 in (
          omega (arith, q, r, z, top, count_mono times (d % horizon) horizon (omega (arith, s.2))),
          omega (arith, q, r, z, top, count_step times 0 (d % horizon) f.rise),
        )
  ]

-- a promise begins with 0 and grows by at most 1 a tick
pub promise_starts : (p : PromiseParts) → IsPromised p → promised_by p 0 ≡ 0
promise_starts p h = promised_zero p.horizon p.times (facts_of p h)

pub promise_grows : (p : PromiseParts) (d : ℕ) → IsPromised p → (promised_by p d ≤ promised_by p (d + 1)) × (promised_by p (d + 1) ≤ promised_by p d + 1)
promise_grows p d h = promised_step p.horizon p.times (facts_of p h) d

spec_starts : (spec : SupplySpec) → IsPromise spec → sbf_of spec 0 ≡ 0
spec_starts Whole h = refl
spec_starts (Promised horizon times) h = promise_starts (record { horizon = horizon; times = times }) h

spec_grows : (spec : SupplySpec) (d : ℕ) → IsPromise spec → (sbf_of spec d ≤ sbf_of spec (d + 1)) × (sbf_of spec (d + 1) ≤ sbf_of spec d + 1)
spec_grows Whole d h = whole_grows d
spec_grows (Promised horizon times) d h = promise_grows (record { horizon = horizon; times = times }) d h

-- the same of the supply that a sheet states
pub stated_starts : (s : SheetParts) → IsValidSheet s → sbf_of s.supply 0 ≡ 0
stated_starts s h = spec_starts s.supply h.supply

pub stated_grows : (s : SheetParts) (d : ℕ) → IsValidSheet s → (sbf_of s.supply d ≤ sbf_of s.supply (d + 1)) × (sbf_of s.supply (d + 1) ≤ sbf_of s.supply d + 1)
stated_grows s d h = spec_grows s.supply d h.supply
