-- The gaps of a curve: how they grow, and that they imply what the curve says.
use Rattle.std.proofs.Common.{◌≡◌, ℕ, zero, suc, ◌+◌, ◌-◌, ◌<◌, ◌≤◌, ◌⊎◌, Bool, true, false, cond, List, [], ◌∷◌, ◌++◌, length, get_or, max}
use Rattle.std.proofs.Common.{Some, refl, sym, ◌∙◌, ap, subst, inl, inr, arith, leb, ltb}
use Rattle.std.specs.List.Sorted.{IsNonDecreasing}
use Rattle.std.proofs.lemmas.Bool.{cases_lt, le-leb, lt-leb, ltb-true, ltb-false}
use Rattle.std.proofs.lemmas.List.{get_or_append_left, get_or_at, get_or_default}
use Rattle.std.proofs.lemmas.List.Sorted.{IsNonDecreasingBy-push, IsNonDecreasingBy-short}
use Rattle.lists.specs.Limits.{greatest_length}
use Rattle.lists.specs.Searches.{IsLeastTo}
use Rattle.lists.specs.Sums.{max_below}
use Rattle.lists.proofs.SumFacts.{max_at_least}
use Rattle.lists.proofs.FirstFacts.{all_broken}
use Rattle.lists.proofs.SearchFacts.{greatest_is}
use Rattle.curve.specs.CurveValue.{Curve}
use Rattle.curve.specs.Curves.{alpha_of, IsRise}
use Rattle.curve.specs.Validity.{IsCurve}
use Rattle.curve.proofs.CurveFacts.{alpha_mono, alpha_zero, alpha_one}
use Rattle.simulated_run.proofs.GrowthFacts.{length_more}
use Rattle.windows.specs.Arrivals.{arrived_in, admits_in, allowance_in}
use Rattle.windows.proofs.ArrivalFacts.{arrived_least}
use Rattle.simulator.specs.declared.gaps.Gap.{Gap}
use Rattle.simulator.specs.Openings.{IsFullBelow, IsShutFor}
use Rattle.simulator.specs.Gaps.{gap_at, no_gap, opened_by, earliest_by, IsWindow, IsLow, AreLow, AreRising, IsImplied, AreGaps}

-- the next window

pub window_stays : (c : Curve) (n w : ℕ) → IsWindow c n w → n + 1 < alpha_of c w → IsWindow c (n + 1) w
window_stays c n w was more = record { low = was.low; admits = more; full = λ d h. omega (arith, was.full d h) }

pub window_rises : (c : Curve) (ok : IsCurve c) (n w r : ℕ) → IsWindow c n w → alpha_of c w ≤ n + 1 →
    IsLeastTo (IsRise c w) greatest_length (Some r) → IsWindow c (n + 1) r
window_rises c ok n w r was few rises =
    let later = rises.1.holds.later in
    record {
      low = omega (arith, later);
      admits = omega (arith, rises.1.holds.higher, was.admits);
      full = λ d h. elim (cases_lt w d) [
        | inr same ↦ omega (arith, few, alpha_mono c ok d w same)
        | inl more ↦ elim (cases_lt (alpha_of c w) (alpha_of c d)) [
          | inl higher ↦ absurd (omega (arith, h, rises.1.least d (record { later = more; higher = higher })))
          | inr flat ↦ omega (arith, flat, few)
        ]
      ];
    }

pub window_first : (c : Curve) → IsCurve c → IsWindow c 0 1
window_first c ok = record {
  low = omega arith;
  admits = omega (arith, alpha_one c ok 1 (omega arith));
  full = λ d h. (let e : d ≡ 0 = omega arith in omega (arith, ap (alpha_of c) e, alpha_zero c ok));
}

-- the next job

pub opened_at : (xs : List ℕ) (g : Gap) → g.count ≤ length xs → opened_by xs g ≡ get_or xs (length xs - g.count) 0 + g.distance
opened_at xs g h = ap (λ (b : Bool). cond {A = ℕ} b (get_or xs (length xs - g.count) 0 + g.distance) 0) (le-leb g.count (length xs) h)

pub opened_not : (xs : List ℕ) (g : Gap) → length xs < g.count → opened_by xs g ≡ 0
opened_not xs g h = ap (λ (b : Bool). cond {A = ℕ} b (get_or xs (length xs - g.count) 0 + g.distance) 0) (lt-leb g.count (length xs) h)

pub max_stands : (f : ℕ → ℕ) (n : ℕ) → (max_below f n ≡ 0) ⊎ ((o : ℕ) × (o < n) × (max_below f n ≡ f o))
max_stands f zero = inl refl
max_stands f (suc n) = elim (cases_lt (max_below f n) (f n)) [
  | inl c ↦ inr (n, omega arith, omega arith)
  | inr c ↦ elim (max_stands f n) [
    | inl e ↦ inl (omega (arith, e))
    | inr o ↦ inr (o.0, omega (arith, o.1), omega (arith, o.2))
  ]
]

pub earliest_cases : (gaps : List Gap) (xs : List ℕ) → (earliest_by gaps xs ≡ 0) ⊎ IsImplied gaps xs (length xs) (earliest_by gaps xs)
earliest_cases gaps xs = elim (max_stands (λ i. opened_by xs (gap_at gaps i)) (length gaps)) [
  | inl e ↦ inl e
  | inr o ↦ elim (cases_lt (length xs) (gap_at gaps o.0).count) [
    | inl far ↦ inl (o.2 ∙ opened_not xs (gap_at gaps o.0) far)
    | inr near ↦ inr (o.0, o.1, near, o.2 ∙ opened_at xs (gap_at gaps o.0) near)
  ]
]

-- one job more of the densest run

module _ (c : Curve) (ok : IsCurve c) (gaps : List Gap) (list : List ℕ) (window : ℕ) (are : AreGaps c gaps list window) where
  implied_kept : (more : List Gap) (x k y : ℕ) → ((i : ℕ) → i < length gaps → gap_at more i ≡ gap_at gaps i) → length gaps ≤ length more →
      k ≤ length list → IsImplied gaps list k y → IsImplied more (list ++ x ∷ []) k y
  implied_kept more x k y same longer h p =
      let some = are.some in
      let low = (are.low p.0 p.1).low in
      let n : ℕ = (gap_at gaps p.0).count in
      let kept : get_or (list ++ x ∷ []) (k - n) 0 ≡ get_or list (k - n) 0 = get_or_append_left list (x ∷ []) 0 (k - n) (omega (arith, low, some)) in (
        p.0,
        omega (arith, p.1, longer),
        subst (λ (g : Gap). g.count ≤ k) (sym (same p.0 p.1)) p.2,
        subst (λ (g : Gap). y ≡ get_or (list ++ x ∷ []) (k - g.count) 0 + g.distance) (sym (same p.0 p.1)) (omega (arith, p.3, kept)),
      )

  -- the next job comes no earlier than the last
  rises : get_or list (length list - 1) 0 ≤ earliest_by gaps list
  rises =
      let some = are.some in
      elim (are.implied (length list - 1) (omega arith)) [
        | inl e ↦ omega (arith, e)
        | inr p ↦
            let low = (are.low p.0 p.1).low in
            let n : ℕ = (gap_at gaps p.0).count in
            let near : n ≤ length list - 1 = p.2 in
            omega (
              arith,
              p.3,
              are.ascending (length list - 1 - n) (length list - n) 0 (omega arith) (omega (arith, low)),
              opened_at list (gap_at gaps p.0) (omega arith),
              max_at_least (λ i. opened_by list (gap_at gaps i)) (length gaps) p.0 p.1,
            )
      ]

  grown : (more : List Gap) (x w : ℕ) → ((i : ℕ) → i < length gaps → gap_at more i ≡ gap_at gaps i) → length gaps ≤ length more →
      AreLow more → ((i : ℕ) → i < length more → IsFullBelow c (gap_at more i).count ((gap_at more i).distance + 1)) →
      AreRising more → ((i : ℕ) → i < length more → ((gap_at more i).count ≤ length list) × ((gap_at more i).distance ≤ x)) → earliest_by gaps list ≤ x →
      IsWindow c (length list) w → w ≤ x + 1 → x ≤ 4000000000 → (x ≡ 0) ⊎ IsImplied more (list ++ x ∷ []) (length list) x →
      AreGaps c more (list ++ x ∷ []) w
  grown more x w same longer low full rising within later next far high new =
      let some = are.some in
      let len : length (list ++ x ∷ []) ≡ suc (length list) = length_more list x in
      let here : get_or (list ++ x ∷ []) (length list) 0 ≡ x = get_or_at list x [] 0 (length list) refl in
      let kept : (k : ℕ) → k < length list → get_or (list ++ x ∷ []) k 0 ≡ get_or list k 0 = λ k b. get_or_append_left list (x ∷ []) 0 k b in
      let last : length (list ++ x ∷ []) - 1 ≡ length list = omega (arith, len) in
      record {
        low = low;
        rising = rising;
        listed = λ i b. record {
          count = omega (arith, (within i b).0, len);
          distance = omega (arith, (within i b).1, here, ap (λ v. get_or (list ++ x ∷ []) v 0) last);
        };
        ascending =
            IsNonDecreasingBy-push (λ v. v) list x are.ascending
            (λ d b. omega (arith, get_or_default list (length list - 1) d 0 (omega arith), rises, later));
        full = full;
        some = omega (arith, len);
        begins = omega (arith, kept 0 some, are.begins);
        near = λ k b. elim (cases_lt k (length list)) [
          | inl l ↦ omega (arith, kept k l, are.near k l)
          | inr l ↦ let e : k ≡ length list = omega (arith, len) in omega (arith, here, ap (λ i. get_or (list ++ x ∷ []) i 0) e)
        ];
        admits = λ k b. elim (cases_lt k (length list)) [
          | inl l ↦ omega (arith, are.admits k l, ap (λ v. alpha_of c (v + 1)) (kept k l))
          | inr l ↦
              let e : k ≡ length list = omega (arith, len) in
              let at : get_or (list ++ x ∷ []) k 0 ≡ x = ap (λ i. get_or (list ++ x ∷ []) i 0) e ∙ here in
              omega (arith, e, next.admits, alpha_mono c ok w (x + 1) far, ap (λ v. alpha_of c (v + 1)) at)
        ];
        implied = λ k b. elim (cases_lt k (length list)) [
          | inl l ↦ elim (are.implied k l) [
            | inl e ↦ inl (omega (arith, e, kept k l))
            | inr p ↦ inr (subst (IsImplied more (list ++ x ∷ []) k) (sym (kept k l)) (implied_kept more x k (get_or list k 0) same longer (omega arith) p))
          ]
          | inr l ↦
              let e : k ≡ length list = omega (arith, len) in
              subst (λ i. (get_or (list ++ x ∷ []) i 0 ≡ 0) ⊎ IsImplied more (list ++ x ∷ []) i (get_or (list ++ x ∷ []) i 0)) (sym e)
              (subst (λ v. (v ≡ 0) ⊎ IsImplied more (list ++ x ∷ []) (length list) v) (sym here) new)
        ];
        last = (let e : length (list ++ x ∷ []) - 1 ≡ length list = omega (arith, len) in subst (λ n. IsWindow c n w) (sym e) next);
      }

  -- the gaps imply it
  grown_alone : (x w : ℕ) → IsWindow c (length list) w → w ≤ x + 1 → x ≤ 4000000000 → x ≡ earliest_by gaps list → AreGaps c gaps (list ++ x ∷ []) w
  grown_alone x w next far high e =
      let new : (x ≡ 0) ⊎ IsImplied gaps list (length list) x = subst (λ v. (v ≡ 0) ⊎ IsImplied gaps list (length list) v) (sym e) (earliest_cases gaps list) in
      grown gaps x w (λ i b. refl) (omega arith) are.low are.full are.rising
      (λ i b. (omega (arith, (are.listed i b).count), omega (arith, (are.listed i b).distance, rises, e)))
      (omega (arith, e)) next far high (elim new [
        | inl z ↦ inl z
        | inr p ↦ inr (implied_kept gaps x (length list) x (λ i b. refl) (omega arith) (omega arith) p)
      ])

  -- or a new one
  grown_gap : (x w : ℕ) → IsWindow c (length list) w → w ≡ x + 1 → x ≤ 4000000000 → earliest_by gaps list ≤ x →
      AreGaps c (gaps ++ (let g : Gap = record { count = length list; distance = x } in g) ∷ []) (list ++ x ∷ []) w
  grown_gap x w next far high later =
      let some = are.some in
      let g : Gap = record { count = length list; distance = x } in
      let more : List Gap = gaps ++ g ∷ [] in
      let len : length more ≡ suc (length gaps) = length_more gaps g in
      let here : gap_at more (length gaps) ≡ g = get_or_at gaps g [] no_gap (length gaps) refl in
      let kept : (i : ℕ) → i < length gaps → gap_at more i ≡ gap_at gaps i = λ i b. get_or_append_left gaps (g ∷ []) no_gap i b in
      let first : get_or (list ++ x ∷ []) 0 0 ≡ 0 = get_or_append_left list (x ∷ []) 0 0 some ∙ are.begins in
      let none : length list - length list ≡ 0 = omega arith in
      let new : IsImplied more (list ++ x ∷ []) (length list) x = (
        length gaps,
        omega (arith, len),
        subst (λ (v : Gap). v.count ≤ length list) (sym here) (omega arith),
        subst (λ (v : Gap). x ≡ get_or (list ++ x ∷ []) (length list - v.count) 0 + v.distance) (sym here)
            (omega (arith, first, ap (λ i. get_or (list ++ x ∷ []) i 0) none)),
      ) in
      let low : IsLow g = record { low = omega (arith, some); high = high } in
      let full : IsFullBelow c (length list) (x + 1) = λ d h. next.full d (omega (arith, far)) in
      grown more x w kept (omega (arith, len))
      (λ i b. elim (cases_lt i (length gaps)) [
        | inl l ↦ subst IsLow (sym (kept i l)) (are.low i l)
        | inr l ↦ let e : i ≡ length gaps = omega (arith, len) in subst (λ k. IsLow (gap_at more k)) (sym e) (subst IsLow (sym here) low)
      ])
      (λ i b. elim (cases_lt i (length gaps)) [
        | inl l ↦ subst (λ (v : Gap). IsFullBelow c v.count (v.distance + 1)) (sym (kept i l)) (are.full i l)
        | inr l ↦
            let e : i ≡ length gaps = omega (arith, len) in
            subst (λ k. IsFullBelow c (gap_at more k).count ((gap_at more k).distance + 1)) (sym e)
            (subst (λ (v : Gap). IsFullBelow c v.count (v.distance + 1)) (sym here) full)
      ])
      (record {
        counts =
            IsNonDecreasingBy-push (λ (v : Gap). v.count) gaps g are.rising.counts
            (λ d b. omega (
              arith,
              (are.listed (length gaps - 1) (omega arith)).count,
              ap (λ (v : Gap). v.count) (get_or_default gaps (length gaps - 1) d no_gap (omega arith)),
            ));
        distances =
            IsNonDecreasingBy-push (λ (v : Gap). v.distance) gaps g are.rising.distances
            (λ d b. omega (
              arith,
              (are.listed (length gaps - 1) (omega arith)).distance,
              rises,
              later,
              ap (λ (v : Gap). v.distance) (get_or_default gaps (length gaps - 1) d no_gap (omega arith)),
            ));
      })
      (λ i b. elim (cases_lt i (length gaps)) [
        | inl l ↦ (
          omega (arith, (are.listed i l).count, ap (λ (v : Gap). v.count) (kept i l)),
          omega (arith, (are.listed i l).distance, rises, later, ap (λ (v : Gap). v.distance) (kept i l)),
        )
        | inr l ↦
            let e : i ≡ length gaps = omega (arith, len) in
            let at : gap_at more i ≡ g = ap (gap_at more) e ∙ here in
            (omega (arith, ap (λ (v : Gap). v.count) at), omega (arith, ap (λ (v : Gap). v.distance) at))
      ])
      later next (omega (arith, far)) high (inr new)

  pub grown_by : (needed : Bool) (x w : ℕ) (count : ℕ) → IsWindow c (length list) w → x ≡ max (earliest_by gaps list) (w - 1) → x ≤ 4000000000 →
      needed ≡ ltb (earliest_by gaps list) x → count ≡ length list →
      AreGaps c (cond needed (gaps ++ (let g : Gap = record { count = count; distance = x } in g) ∷ []) gaps) (list ++ x ∷ []) w
  grown_by true x w count next is high test len =
      let low = next.low in
      let more : earliest_by gaps list < x = ltb-true _ _ (sym test) in
      subst (λ n. AreGaps c (gaps ++ (let g : Gap = record { count = n; distance = x } in g) ∷ []) (list ++ x ∷ []) w) (sym len)
      (grown_gap x w next (omega (arith, is)) high (omega arith))
  grown_by false x w count next is high test len =
      let low = next.low in
      let less : x ≤ earliest_by gaps list = ltb-false _ _ (sym test) in
      grown_alone x w next (omega (arith, is)) high (omega (arith, is))

  pub extended : (needed : Bool) (e x w count n : ℕ) (more : List Gap) (longer : List ℕ) → e ≡ earliest_by gaps list → IsWindow c n w →
      n ≡ length list → x ≡ max e (w - 1) → x ≤ 4000000000 → needed ≡ ltb e x → count ≡ length list →
      more ≡ cond needed (gaps ++ (let g : Gap = record { count = count; distance = x } in g) ∷ []) gaps → longer ≡ list ++ x ∷ [] → AreGaps c more longer w
  extended needed e x w count n more longer is next at most high test len is_more is_longer =
      let next' : IsWindow c (length list) w = subst (λ k. IsWindow c k w) at next in
      let most' : x ≡ max (earliest_by gaps list) (w - 1) = most ∙ ap (λ v. max v (w - 1)) is in
      let test' : needed ≡ ltb (earliest_by gaps list) x = test ∙ ap (λ v. ltb v x) is in
      let done = grown_by needed x w count next' most' high test' len in
      subst (λ (l : List ℕ). AreGaps c more l w) (sym is_longer) (subst (λ (g : List Gap). AreGaps c g (list ++ x ∷ []) w) (sym is_more) done)

pub gaps_first : (c : Curve) → IsCurve c → (gaps : List Gap) (list : List ℕ) → gaps ≡ [] → list ≡ 0 ∷ [] → AreGaps c gaps list 1
gaps_first c ok gaps list e f =
    let one : List ℕ = 0 ∷ [] in
    let at : (k : ℕ) → k < 1 → get_or one k 0 ≡ 0 = λ k b. (let z : k ≡ 0 = omega arith in ap (λ i. get_or one i 0) z) in
    let start : AreGaps c [] one 1 = record {
      low = λ i b. absurd (omega arith);
      rising = record { counts = λ i j d h b. absurd (omega arith); distances = λ i j d h b. absurd (omega arith) };
      listed = λ i b. absurd (omega arith);
      ascending = IsNonDecreasingBy-short (λ v. v) one (omega arith);
      full = λ i b. absurd (omega arith);
      some = omega arith;
      begins = refl;
      near = λ k b. omega (arith, at k b);
      admits = λ k b. omega (arith, b, alpha_one c ok 1 (omega arith), ap (λ v. alpha_of c (v + 1)) (at k b));
      implied = λ k b. inl (at k b);
      last = window_first c ok;
    } in
    subst (λ (g : List Gap). AreGaps c g list 1) (sym e) (subst (λ (l : List ℕ). AreGaps c [] l 1) (sym f) start)

-- no job may arrive before all gaps let it

module _ (c : Curve) (gaps : List Gap) (list : List ℕ) (window : ℕ) (are : AreGaps c gaps list window)
    (xs : List ℕ) (t : ℕ) (ascending : IsNonDecreasing xs) (past : (i : ℕ) → i < length xs → get_or xs i 0 < t) where
  shut_from : (j n d : ℕ) → j < length xs → length xs - j ≡ n → IsFullBelow c n (d + 1) → IsShutFor c xs t (get_or xs j 0 + d)
  unfolding allowance_in
  shut_from j n d b is full = λ v h l. (
      let p = past j b in
      let many : length xs - j ≤ arrived_in xs (get_or xs j 0) v =
      arrived_least xs (get_or xs j 0) v j (λ k a e. ascending j k 0 a e) (λ k e. omega (arith, past k e, h)) in
      let few : alpha_of c (v + 1 - get_or xs j 0) ≤ n = full (v + 1 - get_or xs j 0) (omega (arith, l, h, p)) in
      greatest_is (admits_in c xs v) 0 (alpha_of c 1) (omega arith) (inl refl)
      (λ k a e. all_broken (λ s. leb (arrived_in xs s v + k) (alpha_of c (v + 1 - s))) (v + 1) (get_or xs j 0)
      (omega (arith, h, p)) (lt-leb _ _ (omega (arith, many, few, is, a))))
      )

  pub earliest_shuts : IsShutFor c xs t (earliest_by gaps xs)
  earliest_shuts = elim (earliest_cases gaps xs) [
    | inl e ↦ (λ v h l. absurd (omega (arith, e, l)))
    | inr p ↦
        let low = (are.low p.0 p.1).low in
        let n : ℕ = (gap_at gaps p.0).count in
        let at = shut_from (length xs - n) n (gap_at gaps p.0).distance (omega (arith, low, p.2)) (omega (arith, p.2)) (are.full p.0 p.1) in
        subst (IsShutFor c xs t) (sym p.3) at
  ]
