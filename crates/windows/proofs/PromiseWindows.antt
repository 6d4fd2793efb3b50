-- Windows whose length is a promised time decide whether a tick may be off.
use Rattle.std.proofs.Common.{◌≡◌, ℕ, zero, suc, ◌+◌, ◌-◌, ◌*◌, ◌/◌, ◌%◌, ◌<◌, ◌≤◌, true, List, [], ◌∷◌, length, get_or, refl, sym, ap, subst, inl, inr, arith}
use Rattle.std.proofs.lemmas.Bool.{cases_lt}
use Rattle.std.proofs.lemmas.Nat.{div-mul-add, mod-mul-add}
use Rattle.std.proofs.Math.Nat.{add-mod_right, add-div_right, div_self, mod_self}
use Rattle.task_sheet.specs.Rules.{rise_above}
use Rattle.task_sheet.specs.Sheets.{IsPromise}
use Rattle.task_sheet.specs.declared.tasks.SupplySpec.{SupplySpec}
use Rattle.task_sheet.specs.declared.tasks.SupplySpec.TheVariants.{Promised}
use Rattle.supply.specs.Promises.{count_of, promised, sbf_of}
use Rattle.supply.specs.Lawful.{test_holds, test_fails, rise_parts, count_none, Facts, facts_of}
use Rattle.supply.proofs.PromiseFacts.{count_there, later_time, times_rise, time_within}
use Rattle.windows.specs.Supplied.{ArePromised, MayBeOff}

-- the last of the times that are counted
last_counted : (times : List ℕ) (low d k : ℕ) → rise_above low times ≡ true → count_of times d ≡ suc k →
    (k < length times) × (get_or times k 0 ≤ d)
last_counted [] low d k rise e = absurd (omega arith)
last_counted (t ∷ times) low d zero rise e = elim (cases_lt d t) [
  | inr c ↦ (omega arith, c)
  | inl c ↦ absurd (omega (arith, e, test_fails t d c, count_none times t d (rise_parts low t times rise).1 (omega arith)))
]
last_counted (t ∷ times) low d (suc k) rise e = elim (cases_lt d t) [
  | inr c ↦
      let rest = last_counted times t d k (rise_parts low t times rise).1 (omega (arith, e, test_holds t d c)) in
      (omega (arith, rest.0), rest.1)
  | inl c ↦ absurd (omega (arith, e, test_fails t d c, count_none times t d (rise_parts low t times rise).1 (omega arith)))
]

module _ (horizon : ℕ) (times : List ℕ) (f : Facts horizon times) where
  -- one more horizon
  pub promised_more : (d : ℕ) →
      promised horizon times (d + horizon) ≡ promised horizon times d + promised horizon times horizon
  unfolding promised
  promised_more d =
      let p : 0 < horizon = f.positive in
      let q : (d + horizon) / horizon ≡ d / horizon + 1 = add-div_right d p in
      let r : (d + horizon) % horizon ≡ d % horizon = add-mod_right d horizon in
      let one : horizon / horizon ≡ 1 = div_self p in
      let none : horizon % horizon ≡ 0 = mod_self horizon in
      omega (
        arith,
        ap (λ (w : ℕ). w * count_of times horizon) q,
        ap (count_of times) r,
        ap (λ (w : ℕ). w * count_of times horizon) one,
        ap (count_of times) none,
        count_none times 0 0 f.rise (omega arith),
      )

  -- up to the horizon the times are counted
  pub promised_inside : (d : ℕ) → d ≤ horizon → promised horizon times d ≡ count_of times d
  unfolding promised
  promised_inside d h = elim (cases_lt d horizon) [
    | inl c ↦
        let e : 0 * horizon + d ≡ d = omega arith in
        let q : d / horizon ≡ 0 = omega (arith, ap (λ (w : ℕ). w / horizon) e, div-mul-add 0 horizon d c) in
        let r : d % horizon ≡ d = omega (arith, ap (λ (w : ℕ). w % horizon) e, mod-mul-add 0 horizon d c) in
        omega (arith, ap (λ (w : ℕ). w * count_of times horizon) q, ap (count_of times) r)
    | inr c ↦
        let e : d ≡ horizon = omega arith in
        let one : horizon / horizon ≡ 1 = div_self f.positive in
        let none : horizon % horizon ≡ 0 = mod_self horizon in
        omega (
          arith,
          ap (λ (w : ℕ). w / horizon * count_of times horizon + count_of times (w % horizon)) e,
          ap (λ (w : ℕ). w * count_of times horizon) one,
          ap (count_of times) none,
          count_none times 0 0 f.rise (omega arith),
          ap (count_of times) e,
        )
  ]

  -- a window whose length is a promised time
  pub promised_at_time : (k : ℕ) → k < length times → promised horizon times (get_or times k 0) ≡ suc k
  promised_at_time k b = omega (
    arith,
    promised_inside (get_or times k 0) (omega (arith, time_within times 0 k f.rise b, f.last)),
    count_there times 0 k f.rise b,
  )

-- with tick t off, the windows of the first n promised times have the promised ticks
abbrev pub HaveTimes : List ℕ → List ℕ → ℕ → ℕ → Type 0
HaveTimes times counts t n = (k : ℕ) → k < n → k < length times → get_or times k 0 ≤ t + 1 →
    suc k + get_or counts (t + 1 - get_or times k 0) 0 ≤ get_or counts t 0

module _ (horizon : ℕ) (times : List ℕ) (f : Facts horizon times) (counts : List ℕ) (t : ℕ) (past : ArePromised (promised horizon times) counts t) where
  grown : (s u : ℕ) → s ≤ u → u ≤ t → get_or counts s 0 ≤ get_or counts u 0
  grown s u h l = omega (arith, past.kept s u h l)

  -- a time that is too long for the run, and so are those after it
  pub have_rest : (i : ℕ) → HaveTimes times counts t i → t + 1 < get_or times i 0 →
      HaveTimes times counts t (length times)
  have_rest i have long k b c near = elim (cases_lt k i) [
    | inl l ↦ have k l c near
    | inr l ↦ absurd (omega (arith, times_rise times 0 i k f.rise l c))
  ]

  short_window : HaveTimes times counts t (length times) → (s d : ℕ) → s ≤ t → s + d ≡ t + 1 → d ≤ horizon →
      (k : ℕ) → count_of times d ≡ k → k + get_or counts s 0 ≤ get_or counts t 0
  short_window have s d h e l zero c = omega (arith, grown s t h (omega arith))
  short_window have s d h e l (suc k) c =
      let last = last_counted times 0 d k f.rise c in
      let first = later_time times 0 k f.rise last.0 in
      let begin : s ≤ t + 1 - get_or times k 0 = omega (arith, last.1) in
      omega (arith, have k last.0 last.0 (omega (arith, last.1)), grown s (t + 1 - get_or times k 0) begin (omega (arith, first)))

  long_window : HaveTimes times counts t (length times) → (n s : ℕ) → s ≤ t → t - s ≤ n →
      promised horizon times (t + 1 - s) + get_or counts s 0 ≤ get_or counts t 0
  long_window have zero s h b =
      let p = f.positive in
      omega (
        arith,
        promised_inside horizon times f (t + 1 - s) (omega arith),
        short_window have s (t + 1 - s) h (omega arith) (omega arith) (count_of times (t + 1 - s)) refl,
      )
  long_window have (suc n) s h b = elim (cases_lt horizon (t + 1 - s)) [
    | inr c ↦ omega (arith, promised_inside horizon times f (t + 1 - s) c, short_window have s (t + 1 - s) h (omega arith) c (count_of times (t + 1 - s)) refl)
    | inl c ↦
        let p = f.positive in
        let rest = long_window have n (s + horizon) (omega arith) (omega arith) in
        let e : t + 1 - s ≡ t + 1 - (s + horizon) + horizon = omega arith in
        let g : s + horizon - s ≡ horizon = omega arith in
        omega (
          arith,
          rest,
          past.kept s (s + horizon) (omega arith) (omega arith),
          ap (promised horizon times) e,
          ap (promised horizon times) g,
          promised_more horizon times f (t + 1 - (s + horizon)),
        )
  ]

  -- the windows of the promised times suffice
  pub times_suffice : HaveTimes times counts t (length times) → MayBeOff (promised horizon times) counts t
  times_suffice have s h = long_window have t s h (omega arith)

  -- a window of a promised time that has fewer ticks
  pub time_fails : (k : ℕ) → k < length times → get_or times k 0 ≤ t + 1 →
      get_or counts t 0 < suc k + get_or counts (t + 1 - get_or times k 0) 0 →
      MayBeOff (promised horizon times) counts t → ⊥
  time_fails k b near few may =
      let first = later_time times 0 k f.rise b in
      let e : t + 1 - (t + 1 - get_or times k 0) ≡ get_or times k 0 = omega arith in
      omega (arith, may (t + 1 - get_or times k 0) (omega (arith, first)), ap (promised horizon times) e, promised_at_time horizon times f k b)

module _ (spec : SupplySpec) (horizon : ℕ) (times counts : List ℕ) (t : ℕ) (is : Promised horizon times ≡ spec)
    (promise : IsPromise spec) (past : ArePromised (sbf_of spec) counts t) where
  facts : Facts horizon times
  facts = facts_of (record { horizon = horizon; times = times }) (subst IsPromise (sym is) promise)

  past_of : ArePromised (promised horizon times) counts t
  past_of = subst (λ (s : SupplySpec). ArePromised (sbf_of s) counts t) (sym is) past

  pub times_allow : HaveTimes times counts t (length times) → MayBeOff (sbf_of spec) counts t
  times_allow have = subst (λ (s : SupplySpec). MayBeOff (sbf_of s) counts t) is (times_suffice horizon times facts counts t past_of have)

  pub far_allows : (i : ℕ) → HaveTimes times counts t i → t + 1 < get_or times i 0 → MayBeOff (sbf_of spec) counts t
  far_allows i have far = times_allow (have_rest horizon times facts counts t past_of i have far)

  pub time_refutes : (k : ℕ) → k < length times → get_or times k 0 ≤ t + 1 →
      get_or counts t 0 < suc k + get_or counts (t + 1 - get_or times k 0) 0 → MayBeOff (sbf_of spec) counts t → ⊥
  time_refutes k b near few may = time_fails horizon times facts counts t past_of k b near few
      (subst (λ (s : SupplySpec). MayBeOff (sbf_of s) counts t) (sym is) may)
