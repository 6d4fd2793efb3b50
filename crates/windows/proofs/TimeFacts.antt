-- The needed ones of the promised times decide whether ticks keep to a promise.
use Rattle.std.proofs.Common.{◌≡◌, ℕ, zero, suc, ◌+◌, ◌-◌, ◌<◌, ◌≤◌, List, [], ◌∷◌, ◌++◌, length, get_or, refl, sym, ◌∙◌, ap, subst, inl, inr, arith}
use Rattle.std.proofs.lemmas.Bool.{cases_lt}
use Rattle.std.proofs.lemmas.List.{length-append, get_or_append_left, get_or-append_right}
use Rattle.task_sheet.specs.Sheets.{IsPromise}
use Rattle.task_sheet.specs.declared.tasks.SupplySpec.{SupplySpec}
use Rattle.task_sheet.specs.declared.tasks.SupplySpec.TheVariants.{Promised}
use Rattle.supply.specs.Promises.{promised, sbf_of}
use Rattle.supply.specs.Lawful.{Facts, facts_of}
use Rattle.supply.proofs.PromiseFacts.{times_rise, later_time}
use Rattle.windows.specs.declared.times.PromisedTime.{PromisedTime}
use Rattle.windows.specs.Supplied.{ArePromised, MayBeOff}
use Rattle.windows.specs.Times.{no_time, time_at, IsImplied, IsListedTime, AreNeededTimesBelow, AreNeededTimes}
use Rattle.windows.proofs.PromiseWindows.{HaveTimes, promised_at_time, times_allow, time_refutes}

-- with tick t off, the windows of the first n needed times have the promised ticks
abbrev pub HaveNeeded : List PromisedTime → List ℕ → ℕ → ℕ → Type 0
HaveNeeded needed counts t n = (i : ℕ) → i < n → i < length needed → (time_at needed i).time ≤ t + 1 →
    suc (time_at needed i).before + get_or counts (t + 1 - (time_at needed i).time) 0 ≤ get_or counts t 0

module _ (horizon : ℕ) (times : List ℕ) (f : Facts horizon times) (needed : List PromisedTime)
    (are : AreNeededTimesBelow times (length times) needed) (counts : List ℕ) (t : ℕ) (past : ArePromised (promised horizon times) counts t) where
  -- the window of the time number k has its ticks
  abbrev HasTime : ℕ → Type 0
  HasTime k = get_or times k 0 ≤ t + 1 → suc k + get_or counts (t + 1 - get_or times k 0) 0 ≤ get_or counts t 0

  by_listed : HaveNeeded needed counts t (length needed) → (k : ℕ) → IsListedTime needed k → HasTime k
  by_listed have k at near =
      let e : (time_at needed at.place).time ≡ get_or times k 0 = are.each at.place at.listed ∙ ap (λ (w : ℕ). get_or times w 0) at.before in
      let is : t + 1 - (time_at needed at.place).time ≡ t + 1 - get_or times k 0 = ap (λ (w : ℕ). t + 1 - w) e in
      omega (arith, have at.place at.listed at.listed (omega (arith, e)), at.before, ap (λ (w : ℕ). get_or counts w 0) is)

  -- two windows side by side in that of the time number k
  by_two : (k i : ℕ) → k < length times → IsImplied times k i → HasTime (k - 1 - i) → HasTime k
  by_two k i b implied rest near =
      let earlier = implied.earlier in
      let enough = implied.enough in
      let first = later_time times 0 i f.rise (omega arith) in
      let last = later_time times 0 (k - 1 - i) f.rise (omega arith) in
      let less = times_rise times 0 i k f.rise (omega arith) b in
      let s : ℕ = t + 1 - get_or times k 0 in
      let m : ℕ = s + get_or times i 0 in
      let u : ℕ = t + 1 - get_or times (k - 1 - i) 0 in
      let g : m - s ≡ get_or times i 0 = omega arith in
      let front : suc i + get_or counts s 0 ≤ get_or counts m 0 =
      omega (
        arith,
        past.kept s m (omega arith) (omega (arith, last, first)),
        ap (promised horizon times) g,
        promised_at_time horizon times f i (omega arith),
      ) in
      let between : get_or counts m 0 ≤ get_or counts u 0 = omega (arith, past.kept m u (omega arith) (omega (arith, last))) in
      omega (arith, front, between, rest (omega arith))

  has_to : HaveNeeded needed counts t (length needed) → (n k : ℕ) → k ≤ n → k < length times → HasTime k
  has_to have zero k h b = elim (are.decide k b) [
    | inl at ↦ by_listed have k at
    | inr by ↦ absurd (omega (arith, by.1.earlier))
  ]
  has_to have (suc n) k h b = elim (are.decide k b) [
    | inl at ↦ by_listed have k at
    | inr by ↦
        let earlier = by.1.earlier in
        by_two k by.0 b by.1 (has_to have n (k - 1 - by.0) (omega arith) (omega arith))
  ]

  -- the needed times suffice
  pub needed_suffice : HaveNeeded needed counts t (length needed) → HaveTimes times counts t (length times)
  needed_suffice have k b c near = has_to have k k (omega arith) b near

  -- one that is too long for the run, and so are those after it
  pub needed_rest : (i : ℕ) → i < length needed → HaveNeeded needed counts t i → t + 1 < (time_at needed i).time →
      HaveNeeded needed counts t (length needed)
  needed_rest i listed have long k b c near = elim (cases_lt k i) [
    | inl l ↦ have k l c near
    | inr l ↦ absurd (elim (cases_lt i k) [
      | inl later ↦ omega (
        arith,
        long,
        near,
        are.each i listed,
        are.each k c,
        times_rise times 0 (time_at needed i).before (time_at needed k).before f.rise (omega (arith, are.ascending i k later c)) (are.below k c),
      )
      | inr same ↦ let e : k ≡ i = omega arith in omega (arith, long, near, ap (λ (w : ℕ). (time_at needed w).time) e)
    ])
  ]

module _ (spec : SupplySpec) (horizon : ℕ) (times counts : List ℕ) (t : ℕ) (is : Promised horizon times ≡ spec)
    (promise : IsPromise spec) (past : ArePromised (sbf_of spec) counts t) (needed : List PromisedTime) (are : AreNeededTimes spec needed) where
  facts : Facts horizon times
  facts = facts_of (record { horizon = horizon; times = times }) (subst IsPromise (sym is) promise)

  past_of : ArePromised (promised horizon times) counts t
  past_of = subst (λ (s : SupplySpec). ArePromised (sbf_of s) counts t) (sym is) past

  are_of : AreNeededTimesBelow times (length times) needed
  are_of = subst (λ (s : SupplySpec). AreNeededTimes s needed) (sym is) are

  pub needed_allow : HaveNeeded needed counts t (length needed) → MayBeOff (sbf_of spec) counts t
  needed_allow have = times_allow spec horizon times counts t is promise past (needed_suffice horizon times facts needed are_of counts t past_of have)

  pub further_allows : (i : ℕ) → i < length needed → HaveNeeded needed counts t i → t + 1 < (time_at needed i).time →
      MayBeOff (sbf_of spec) counts t
  further_allows i listed have far = needed_allow (needed_rest horizon times facts needed are_of counts t past_of i listed have far)

  pub needed_refutes : (i : ℕ) → i < length needed → (time_at needed i).time ≤ t + 1 →
      get_or counts t 0 < suc (time_at needed i).before + get_or counts (t + 1 - (time_at needed i).time) 0 →
      MayBeOff (sbf_of spec) counts t → ⊥
  needed_refutes i listed near few may =
      let e = are_of.each i listed in
      let w : t + 1 - (time_at needed i).time ≡ t + 1 - get_or times (time_at needed i).before 0 = ap (λ (w : ℕ). t + 1 - w) e in
      time_refutes spec horizon times counts t is promise past (time_at needed i).before (are_of.below i listed)
      (omega (arith, e)) (omega (arith, few, ap (λ (v : ℕ). get_or counts v 0) w)) may

-- one time more, which follows from an earlier one
pub times_same : (times : List ℕ) (needed : List PromisedTime) (k : ℕ) → AreNeededTimesBelow times k needed → (i : ℕ) → IsImplied times k i →
    AreNeededTimesBelow times (k + 1) needed
times_same times needed k are i implied = record {
  decide = λ n h. elim (cases_lt n k) [
    | inl l ↦ are.decide n l
    | inr l ↦ let e : k ≡ n = omega arith in inr (i, subst (λ w. IsImplied times w i) e implied)
  ];
  below = λ n h. omega (arith, are.below n h);
  each = are.each;
  ascending = are.ascending;
}

module _ (times : List ℕ) (needed : List PromisedTime) (k : ℕ) (are : AreNeededTimesBelow times k needed) (x : PromisedTime)
    (is_before : x.before ≡ k) (is_time : x.time ≡ get_or times k 0) where
  abbrev more : List PromisedTime
  more = needed ++ x ∷ []

  count : length more ≡ length needed + 1
  count = omega (arith, length-append needed (x ∷ []))

  old_at : (i : ℕ) → i < length needed → time_at more i ≡ time_at needed i
  old_at i h = get_or_append_left needed (x ∷ []) no_time i h

  new_at : time_at more (length needed) ≡ x
  new_at =
      let none : length needed - length needed ≡ 0 = omega arith in
      get_or-append_right needed (x ∷ []) (length needed) (length needed) no_time refl (omega arith) ∙ ap (λ (w : ℕ). get_or (x ∷ []) w no_time) none

  old_listed : (n : ℕ) → IsListedTime needed n → IsListedTime more n
  old_listed n at = record {
    place = at.place;
    listed = omega (arith, count, at.listed);
    before =
        ap (λ (d : PromisedTime). d.before) (old_at at.place at.listed) ∙ at.before;
  }

  new_listed : IsListedTime more k
  new_listed = record { place = length needed; listed = omega (arith, count); before = ap (λ (d : PromisedTime). d.before) new_at ∙ is_before }

  each_of : (P : PromisedTime → Type 0) → ((i : ℕ) → i < length needed → P (time_at needed i)) → P x → (i : ℕ) → i < length more →
      P (time_at more i)
  each_of P old new i h = elim (cases_lt i (length needed)) [
    | inl l ↦ subst P (sym (old_at i l)) (old i l)
    | inr l ↦ let e : length needed ≡ i = omega (arith, count) in subst (λ w. P (time_at more w)) e (subst P (sym new_at) new)
  ]

  pub times_more : AreNeededTimesBelow times (k + 1) (needed ++ x ∷ [])
  times_more = record {
    decide = λ n h. elim (cases_lt n k) [
      | inl l ↦ elim (are.decide n l) [ inl at ↦ inl (old_listed n at) | inr by ↦ inr by ]
      | inr l ↦ let e : k ≡ n = omega arith in inl (subst (IsListedTime more) e new_listed)
    ];
    below = each_of (λ d. d.before < k + 1) (λ i h. omega (arith, are.below i h)) (omega (arith, is_before));
    each = each_of (λ d. d.time ≡ get_or times d.before 0) are.each (omega (arith, is_time, ap (λ (w : ℕ). get_or times w 0) is_before));
    ascending = λ i n h l. elim (cases_lt n (length needed)) [
      | inl old ↦ omega (
        arith,
        are.ascending i n h old,
        ap (λ (d : PromisedTime). d.before) (old_at n old),
        ap (λ (d : PromisedTime). d.before) (old_at i (omega arith)),
      )
      | inr new ↦
          let e : n ≡ length needed = omega (arith, count) in
          omega (
            arith,
            are.below i (omega arith),
            ap (λ (d : PromisedTime). d.before) (old_at i (omega arith)),
            ap (λ (w : ℕ). (time_at more w).before) e,
            ap (λ (d : PromisedTime). d.before) new_at,
            is_before,
          )
    ];
  }

pub times_none : (times : List ℕ) → AreNeededTimesBelow times 0 []
times_none times = record {
  decide = λ k h. absurd (omega arith);
  below = λ i h. absurd (omega arith);
  each = λ i h. absurd (omega arith);
  ascending = λ i k h l. absurd (omega arith);
}
