-- How many jobs may arrive at a tick, by the gaps to those before each of them.
use Rattle.std.proofs.Common.{◌≡◌, ℕ, zero, suc, ◌+◌, ◌-◌, ◌<◌, ◌≤◌, ◌⊎◌, true, false, List, length, get_or, refl, sym}
use Rattle.std.proofs.Common.{ap, inl, inr, arith, leb, ltb}
use Rattle.std.proofs.lemmas.Bool.{cases_lt, le-leb, lt-leb, ltb-true, ltb-false}
use Rattle.lists.proofs.SumFacts.{max_at_least}
use Rattle.lists.proofs.FirstFacts.{all_from, all_broken}
use Rattle.lists.proofs.SearchFacts.{greatest_is, first_cases}
use Rattle.curve.specs.CurveValue.{Curve}
use Rattle.curve.specs.Curves.{alpha_of}
use Rattle.curve.specs.Validity.{IsCurve}
use Rattle.curve.proofs.CurveFacts.{alpha_mono}
use Rattle.windows.specs.Arrivals.{arrived_in, admits_in, allowance_in, IsPast}
use Rattle.windows.proofs.ArrivalFacts.{arrived_least, arrived_most, arrived_range}
use Rattle.simulator.specs.declared.gaps.Gap.{Gap}
use Rattle.simulator.specs.Gaps.{gap_at, opened_by, earliest_by, with_more, AreGaps}
use Rattle.simulator.proofs.GapFacts.{earliest_cases}
use Rattle.simulator.proofs.MoreFacts.{more_length, opened_near, before_new, before_own}

-- after n more jobs at t the gaps let one more come
abbrev pub LetsCome : List Gap → List ℕ → List ℕ → ℕ → ℕ → Type 0
LetsCome gaps list xs t n = (earliest_by gaps (with_more xs n t) ≤ t) × (length xs + n < length list)

module _ (c : Curve) (ok : IsCurve c) (gaps : List Gap) (list : List ℕ) (window : ℕ) (are : AreGaps c gaps list window)
    (xs : List ℕ) (t : ℕ) (past : IsPast c xs t) where
  gap_apart : (i j : ℕ) → i < length gaps → (gap_at gaps i).count ≤ j → j < length xs →
      get_or xs (j - (gap_at gaps i).count) 0 + (gap_at gaps i).distance ≤ get_or xs j 0
  gap_apart i j b h l =
      let n : ℕ = (gap_at gaps i).count in
      let d : ℕ = (gap_at gaps i).distance in
      let from : ℕ = get_or xs (j - n) 0 in
      let to : ℕ = get_or xs j 0 in
      elim (cases_lt to (from + d)) [
        | inr far ↦ far
        | inl close ↦
            let order : from ≤ to = past.ascending (j - n) j 0 (omega arith) l in
            let many : j + 1 - (j - n) ≤ arrived_in xs from (to + 1) =
            arrived_range xs from (to + 1) (j - n) (j + 1) (omega (arith, l))
            (λ k a e. past.ascending (j - n) k 0 a (omega (arith, e, l))) (λ k a e. omega (arith, past.ascending k j 0 (omega (arith, e)) l)) in
            let within : arrived_in xs from (to + 1) ≤ alpha_of c (to + 1 - from) = past.within from (to + 1) (omega (arith, order)) in
            let few : alpha_of c (to + 1 - from) ≤ n = are.full i b (to + 1 - from) (omega (arith, close, order)) in
            absurd (omega (arith, many, within, few, h))
      ]

  -- arrivals are as far apart as in the densest run
  apart : (fuel k i : ℕ) → k ≤ fuel → i + k < length xs → k < length list → get_or xs i 0 + get_or list k 0 ≤ get_or xs (i + k) 0
  apart zero k i h b l =
      let e : k ≡ 0 = omega arith in
      omega (arith, are.begins, ap (λ v. get_or list v 0) e, past.ascending i (i + k) 0 (omega arith) b)
  apart (suc fuel) k i h b l = elim (are.implied k l) [
    | inl e ↦ omega (arith, e, past.ascending i (i + k) 0 (omega arith) b)
    | inr p ↦
        let low = (are.low p.0 p.1).low in
        let n : ℕ = (gap_at gaps p.0).count in
        let rest : get_or xs i 0 + get_or list (k - n) 0 ≤ get_or xs (i + (k - n)) 0 =
        apart fuel (k - n) i (omega (arith, low, h)) (omega (arith, b)) (omega (arith, l)) in
        let step = gap_apart p.0 (i + k) p.1 (omega (arith, p.2)) b in
        let same : i + (k - n) ≡ i + k - n = omega (arith, p.2) in
        omega (arith, rest, step, p.3, ap (λ v. get_or xs v 0) same)
  ]

  opens : (n i : ℕ) → LetsCome gaps list xs t n → i < length gaps → (gap_at gaps i).count ≤ length xs + n →
      get_or (with_more xs n t) (length xs + n - (gap_at gaps i).count) 0 + (gap_at gaps i).distance ≤ t
  opens n i come b h = omega (
    arith,
    come.0,
    max_at_least (λ k. opened_by (with_more xs n t) (gap_at gaps k)) (length gaps) i b,
    opened_near xs n t (gap_at gaps i) h,
  )

  -- then so do all windows from an earlier job on
  come_by : (n i : ℕ) → LetsCome gaps list xs t n → i < length xs → (p : ℕ) → p < length gaps → n < (gap_at gaps p).count →
      (gap_at gaps p).count ≤ length xs - i + n →
      get_or list (length xs - i + n) 0 ≡ get_or list (length xs - i + n - (gap_at gaps p).count) 0 + (gap_at gaps p).distance →
      get_or xs i 0 + get_or list (length xs - i + n) 0 ≤ t
  come_by n i come b p l old h is =
      let count : ℕ = (gap_at gaps p).count in
      let k : ℕ = length xs - i + n - count in
      let rest : get_or xs i 0 + get_or list k 0 ≤ get_or xs (i + k) 0 =
      apart (length xs) k i (omega (arith, old)) (omega (arith, old, b)) (omega (arith, come.1)) in
      let same : i + k ≡ length xs - (count - n) = omega (arith, old, h, b) in
      omega (
        arith,
        rest,
        is,
        opens n p come l (omega (arith, h)),
        before_own xs n t count old (omega (arith, h)),
        ap (λ v. get_or xs v 0) same,
      )

  come : (fuel n i : ℕ) → n ≤ fuel → ((m : ℕ) → m ≤ n → LetsCome gaps list xs t m) → i < length xs → get_or xs i 0 + get_or list (length xs - i + n) 0 ≤ t
  come zero n i h early b = elim (are.implied (length xs - i + n) (omega (arith, (early n (omega arith)).1))) [
    | inl e ↦ omega (arith, e, past.before i b)
    | inr p ↦ let low = (are.low p.0 p.1).low in come_by n i (early n (omega arith)) b p.0 p.1 (omega (arith, low, h)) p.2 p.3
  ]
  come (suc fuel) n i h early b = elim (are.implied (length xs - i + n) (omega (arith, (early n (omega arith)).1))) [
    | inl e ↦ omega (arith, e, past.before i b)
    | inr p ↦
        let low = (are.low p.0 p.1).low in
        let count : ℕ = (gap_at gaps p.0).count in
        elim (cases_lt n count) [
          | inl old ↦ come_by n i (early n (omega arith)) b p.0 p.1 old p.2 p.3
          | inr new ↦
              let rest : get_or xs i 0 + get_or list (length xs - i + (n - count)) 0 ≤ t =
              come fuel (n - count) i (omega (arith, low, h)) (λ m l. early m (omega (arith, l))) b in
              let same : length xs - i + (n - count) ≡ length xs - i + n - count = omega (arith, new) in
              omega (
                arith,
                rest,
                p.3,
                opens n p.0 (early n (omega arith)) p.1 (omega (arith, new)),
                before_new xs n t count low new,
                ap (λ v. get_or list v 0) same,
              )
        ]
  ]

  -- and every window
  fits : (n s : ℕ) → n < alpha_of c 1 → ((m : ℕ) → m ≤ n → LetsCome gaps list xs t m) → s ≤ t → arrived_in xs s t + (n + 1) ≤ alpha_of c (t + 1 - s)
  fits n s few early h = elim (first_cases (λ k. ltb (get_or xs k 0) s) (length xs)) [
    | inl f ↦
        let i : ℕ = f.0 in
        let b : i < length xs = f.1.listed in
        let at : s ≤ get_or xs i 0 = ltb-false _ _ f.1.fails in
        let most : arrived_in xs s t ≤ length xs - i = arrived_most xs s t i (λ k a e. ltb-true _ _ (f.1.least k a)) in
        let later : get_or xs i 0 + get_or list (length xs - i + n) 0 ≤ t = come n n i (omega arith) early b in
        let admits : length xs - i + n < alpha_of c (get_or list (length xs - i + n) 0 + 1) =
        are.admits (length xs - i + n) (omega (arith, (early n (omega arith)).1)) in
        omega (arith, most, admits, alpha_mono c ok (get_or list (length xs - i + n) 0 + 1) (t + 1 - s) (omega (arith, later, at)))
    | inr never ↦
        let most : arrived_in xs s t ≤ length xs - length xs = arrived_most xs s t (length xs) (λ k a e. ltb-true _ _ (never.all k e)) in
        omega (arith, most, few, alpha_mono c ok 1 (t + 1 - s) (omega (arith, h)))
  ]

  admitted : (n : ℕ) → n ≤ alpha_of c 1 → ((m : ℕ) → m < n → LetsCome gaps list xs t m) → (n ≡ 0) ⊎ (admits_in c xs t n ≡ true)
  admitted zero few early = inl refl
  admitted (suc n) few early =
      inr (all_from (λ s. leb (arrived_in xs s t + suc n) (alpha_of c (t + 1 - s))) (t + 1)
      (λ s b. le-leb _ _ (omega (arith, fits n s (omega (arith, few)) (λ m l. early m (omega (arith, l))) (omega (arith, b))))))

  -- where a gap does not let one more come, no more may
  no_more : (n k : ℕ) → t < earliest_by gaps (with_more xs n t) → n < k → k ≤ alpha_of c 1 → admits_in c xs t k ≡ false
  no_more n k late more few = elim (earliest_cases gaps (with_more xs n t)) [
    | inl e ↦ absurd (omega (arith, e, late))
    | inr p ↦
        let low = (are.low p.0 p.1).low in
        let len = more_length xs n t in
        let count : ℕ = (gap_at gaps p.0).count in
        let distance : ℕ = (gap_at gaps p.0).distance in
        let from : get_or (with_more xs n t) (length (with_more xs n t) - count) 0 ≡ get_or (with_more xs n t) (length xs + n - count) 0 =
        ap (λ v. get_or (with_more xs n t) (v - count) 0) len in
        elim (cases_lt n count) [
          | inl old ↦
              let j : ℕ = length xs - (count - n) in
              let b : j < length xs = omega (arith, old, p.2, len) in
              let reach : t < get_or xs j 0 + distance =
              omega (arith, late, p.3, from, before_own xs n t count old (omega (arith, p.2, len))) in
              let many : length xs - j ≤ arrived_in xs (get_or xs j 0) t =
              arrived_least xs (get_or xs j 0) t j (λ i a e. past.ascending j i 0 a e) (λ i e. past.before i e) in
              let early : get_or xs j 0 < t = past.before j b in
              let full : alpha_of c (t + 1 - get_or xs j 0) ≤ count = are.full p.0 p.1 (t + 1 - get_or xs j 0) (omega (arith, reach, early)) in
              all_broken (λ s. leb (arrived_in xs s t + k) (alpha_of c (t + 1 - s))) (t + 1) (get_or xs j 0) (omega (arith, early))
              (lt-leb _ _ (omega (arith, many, full, more, old, p.2, len)))
          | inr new ↦
              let reach : t < t + distance = omega (arith, late, p.3, from, before_new xs n t count low new) in
              let full : alpha_of c 1 ≤ count = are.full p.0 p.1 1 (omega (arith, reach)) in
              absurd (omega (arith, full, new, more, few))
        ]
  ]

  pub room_is : (n : ℕ) → n ≤ alpha_of c 1 → ((m : ℕ) → m < n → LetsCome gaps list xs t m) → (n ≡ alpha_of c 1) ⊎ (t < earliest_by gaps (with_more xs n t)) →
      n ≡ allowance_in c xs t
  unfolding allowance_in
  room_is n few early ends = sym (greatest_is (admits_in c xs t) n (alpha_of c 1) few (admitted n few early) (λ k a h. elim ends [
    | inl e ↦ absurd (omega (arith, e, a, h))
    | inr late ↦ no_more n k late a h
  ]))
