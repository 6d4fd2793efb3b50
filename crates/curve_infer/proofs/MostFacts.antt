use Rattle.std.proofs.Common.{◌≡◌, ℕ, zero, suc, ◌+◌, ◌-◌, ◌*◌, ◌<◌, ◌≤◌, List, length, get_or, refl, ap, subst, arith, inl, inr}
use Rattle.std.proofs.lemmas.Bool.{cases_lt}
use Rattle.lists.specs.Sums.{max_below, min_to}
use Rattle.lists.proofs.SumFacts.{max_at_least, min_low, min_at}
use Rattle.curve_infer.specs.Traces.{IsTrace}
use Rattle.curve_infer.specs.Gaps.{gap_of}
use Rattle.curve_infer.specs.Curves.{times_in, last_of, most_of, IsLeastLength}
use Rattle.curve_infer.proofs.CountFacts.{times_split, times_none, times_few, times_last, times_latest, times_order, early_counts, counts_early}

-- the greatest stands somewhere
pub record IsAt (f : ℕ → ℕ) (v : ℕ) : Type 0 where
  pub place : ℕ
  pub is : f place ≡ v

max_at : (f : ℕ → ℕ) (n : ℕ) → IsAt f (max_below f (suc n))
max_at f zero = record { place = 0; is = omega arith }
max_at f (suc n) =
    let at = max_at f n in
    elim (cases_lt (max_below f (suc n)) (f (suc n))) [
      | inl c ↦ record { place = suc n; is = omega (arith, c) }
      | inr c ↦ record { place = at.place; is = omega (arith, at.is, c) }
    ]

module _ (times : List ℕ) (ok : IsTrace times) where
  -- some window of d ticks has the most
  pub most_at : (d : ℕ) → IsAt (λ t. times_in times t (t + d)) (most_of times d)
  unfolding most_of
  most_at d =
      let e : suc (last_of 0 times) ≡ last_of 0 times + 1 = omega arith in
      subst (λ n. IsAt (λ t. times_in times t (t + d)) (max_below (λ t. times_in times t (t + d)) n)) e
      (max_at (λ t. times_in times t (t + d)) (last_of 0 times))

  -- after the last time there is none
  none_late : (t d : ℕ) → last_of 0 times < t → times_in times t (t + d) ≡ 0
  none_late t d h =
      let some = ok.some in
      let last = times_last times 0 (length times - 1) ok.fit (omega (arith, some)) in
      let all = early_counts times 0 (length times - 1) t ok.fit (omega (arith, some)) (omega (arith, last, h)) in
      omega (arith, all, times_split times 0 t (t + d) (omega arith) (omega arith), times_few times 0 (t + d))

  -- no window has more
  pub most_low : (t d : ℕ) → times_in times t (t + d) ≤ most_of times d
  unfolding most_of
  most_low t d = elim (cases_lt (last_of 0 times) t) [
    | inl c ↦ omega (arith, none_late t d c)
    | inr c ↦ max_at_least (λ w. times_in times w (w + d)) (last_of 0 times + 1) t (omega (arith, c))
  ]

  pub most_zero : most_of times 0 ≡ 0
  most_zero =
      let at = most_at 0 in
      let e : at.place + 0 ≡ at.place = omega arith in
      omega (arith, at.is, ap (times_in times at.place) e, times_none times at.place)

  pub most_high : (d : ℕ) → most_of times d ≤ length times
  most_high d =
      let at = most_at d in
      omega (arith, at.is, times_few times at.place (at.place + d))

  pub most_mono : (d e : ℕ) → d ≤ e → most_of times d ≤ most_of times e
  most_mono d e h =
      let at = most_at d in
      omega (arith, at.is, most_low at.place e, times_split times at.place (at.place + d) (at.place + e) (omega arith) (omega (arith, h)))

  -- a window is its front and its rest
  pub most_split : (d e : ℕ) → most_of times (d + e) ≤ most_of times d + most_of times e
  most_split d e =
      let at = most_at (d + e) in
      let whole : at.place + d + e ≡ at.place + (d + e) = omega arith in
      omega (
        arith,
        at.is,
        ap (times_in times at.place) whole,
        times_split times at.place (at.place + d) (at.place + d + e) (omega arith) (omega arith),
        most_low at.place d,
        most_low (at.place + d) e,
      )

  pub most_cycles : (h q r : ℕ) → most_of times (q * h + r) ≤ q * most_of times h + most_of times r
  most_cycles h zero r =
      let e : zero * h + r ≡ r = omega arith in
      omega (arith, ap (most_of times) e)
  most_cycles h (suc q) r =
      let e : suc q * h + r ≡ h + (q * h + r) = omega arith in
      omega (arith, ap (most_of times) e, most_split h (q * h + r), most_cycles h q r)

  -- a window of d ticks with n times has that many in a row
  pub record IsRow (n d : ℕ) : Type 0 where
    pub first : ℕ
    pub within : first + n ≤ length times
    pub short : get_or times (first + (n - 1)) 0 < get_or times first 0 + d

  pub row_of : (n d : ℕ) → 1 ≤ n → n ≤ most_of times d → IsRow n d
  row_of n d some enough =
      let at = most_at d in
      let t = at.place in
      let split = times_split times 0 t (t + d) (omega arith) (omega arith) in
      let few = times_few times 0 (t + d) in
      let i = times_in times 0 t in
      let high = counts_early times 0 (i + (n - 1)) (t + d) ok.fit (omega (arith, at.is, split, few, some, enough))
      (omega (arith, at.is, split, some, enough)) in
      let low : t ≤ get_or times i 0 = elim (cases_lt (get_or times i 0) t) [
        | inr c ↦ c
        | inl c ↦ absurd (omega (arith, early_counts times 0 i t ok.fit (omega (arith, at.is, split, few, some, enough)) c))
      ] in
      record { first = i; within = omega (arith, at.is, split, few, some, enough); short = omega (arith, high, low) }

  pub row_most : (n d i : ℕ) → 1 ≤ n → i + n ≤ length times → get_or times (i + (n - 1)) 0 < get_or times i 0 + d → n ≤ most_of times d
  row_most n d i some within short =
      let t = get_or times i 0 in
      let all = early_counts times 0 (i + (n - 1)) (t + d) ok.fit (omega (arith, some, within)) short in
      let before : times_in times 0 t ≤ i = elim (cases_lt i (times_in times 0 t)) [
        | inr c ↦ c
        | inl c ↦ absurd (omega (arith, counts_early times 0 i t ok.fit (omega (arith, some, within)) c))
      ] in
      omega (arith, all, before, times_split times 0 t (t + d) (omega arith) (omega arith), most_low t d, some)

  -- so one tick has a time
  pub most_one : (d : ℕ) → 1 ≤ d → 1 ≤ most_of times d
  most_one d h =
      let some = ok.some in
      row_most 1 d 0 (omega arith) (omega (arith, some)) (omega (arith, h))

  -- the least length of a window with n times is one tick more than they are apart at least
  pub length_is : (n : ℕ) → 1 ≤ n → n ≤ length times → IsLeastLength times n (min_to (gap_of times (n - 1)) (length times - (n - 1) - 1) + 1)
  length_is n some few = λ d. (
    (λ enough.
        let row = row_of n d some enough in
        omega (
          arith,
          min_low (gap_of times (n - 1)) (length times - (n - 1) - 1) row.first (omega (arith, row.within, some)),
          row.short,
          times_order times 0 row.first (row.first + (n - 1)) ok.fit (omega arith) (omega (arith, row.within, some)),
        )),
    (λ long.
        let at = min_at (gap_of times (n - 1)) (length times - (n - 1) - 1) in
        row_most n d at.place some (omega (arith, at.within, some, few)) (omega (arith, at.is, long))),
  )

  pub gap_high : (n : ℕ) → 1 ≤ n → n ≤ length times → min_to (gap_of times (n - 1)) (length times - (n - 1) - 1) ≤ 1000000000
  gap_high n some few =
      let at : 0 + (n - 1) ≡ n - 1 = omega arith in
      omega (
        arith,
        min_low (gap_of times (n - 1)) (length times - (n - 1) - 1) 0 (omega arith),
        ap (λ (w : ℕ). get_or times w 0) at,
        times_latest times 0 (n - 1) ok.fit (omega (arith, some, few)),
      )
