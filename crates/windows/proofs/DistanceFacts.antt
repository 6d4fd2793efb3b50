-- The needed distances decide whether arrivals keep to a curve.
use Rattle.std.proofs.Common.{◌≡◌, ℕ, zero, suc, ◌+◌, ◌-◌, ◌<◌, ◌≤◌, List, [], ◌∷◌, ◌++◌, length, get_or, refl, sym, ◌∙◌, ap, subst, inl, inr, arith}
use Rattle.std.specs.List.Sorted.{IsNonDecreasing}
use Rattle.std.proofs.lemmas.Bool.{cases_lt}
use Rattle.std.proofs.lemmas.List.{length-append, get_or_append_left, get_or-append_right}
use Rattle.lists.specs.Limits.{greatest_number}
use Rattle.curve.specs.CurveValue.{Curve}
use Rattle.curve.specs.Curves.{alpha_of}
use Rattle.windows.specs.declared.distances.Distance.{Distance}
use Rattle.windows.specs.Crowds.{IsCrowdedPair}
use Rattle.windows.specs.Distances.{no_distance, distance_at, KeepsSpan, Follows, IsListed, AreNeededBelow, AreNeeded, AreNeededOf, NeededDecide, DoKeep}

module _ (spans : List ℕ) (needed : List Distance) (xs : List ℕ) (j : ℕ) (are : AreNeeded spans needed) (b : j < length spans)
    (free : (k m : ℕ) → k < j → m ≤ k → KeepsSpan spans xs k m) (look : (i : ℕ) → i < length needed →
    (distance_at needed i).apart ≤ j → KeepsSpan spans xs j (distance_at needed i).apart) where
  by_look : (m : ℕ) → m ≤ j → IsListed needed m → KeepsSpan spans xs j m
  by_look m l at = subst (KeepsSpan spans xs j) at.apart (look at.place at.listed (omega (arith, at.apart)))

  -- a distance whose shorter part of the later jobs is kept
  by_parts : (m p : ℕ) → m ≤ j → Follows spans m p → KeepsSpan spans xs j (m - p) → KeepsSpan spans xs j m
  by_parts m p l follows rest =
      let shorter = follows.shorter in
      let some = follows.some in
      let e : j - (m - p) - p ≡ j - m = omega arith in
      omega (arith, follows.enough, rest, free (j - (m - p)) p (omega arith) (omega arith), ap (λ (w : ℕ). get_or xs w 0) e)

  keeps_to : (n m : ℕ) → m ≤ n → m ≤ j → KeepsSpan spans xs j m
  keeps_to zero m h l = elim (are.decide m (omega arith)) [
    | inl at ↦ by_look m l at
    | inr by ↦ absurd (omega (arith, by.1.shorter))
  ]
  keeps_to (suc n) m h l = elim (are.decide m (omega arith)) [
    | inl at ↦ by_look m l at
    | inr by ↦
        let shorter = by.1.shorter in
        let some = by.1.some in
        by_parts m by.0 l by.1 (keeps_to n (m - by.0) (omega arith) (omega arith))
  ]

pub needed_decide_law : NeededDecide
needed_decide_law spans needed xs j are b free look m l = keeps_to spans needed xs j are b free look m m (omega arith) l

module _ (c : Curve) (xs : List ℕ) (up : IsNonDecreasing xs) (early : (i : ℕ) → i < length xs → get_or xs i 0 ≤ greatest_number)
    (needed : List Distance) (of : AreNeededOf c (length xs) needed) where
  -- arrivals that are too close are crowded
  pub close_pair : (j m : ℕ) → j < length xs → m ≤ j → get_or xs j 0 + 1 - get_or xs (j - m) 0 < get_or of.spans m 0 →
      IsCrowdedPair c xs j (j - m)
  close_pair j m b l close = record {
    within = omega arith;
    many = elim (cases_lt (alpha_of c (get_or xs j 0 + 1 - get_or xs (j - m) 0)) (j - (j - m) + 1)) [
      | inl few ↦ few
      | inr enough ↦ absurd (omega (
        arith,
        close,
        (of.are m (omega (arith, of.counted))).least (get_or xs j 0 + 1 - get_or xs (j - m) 0) (omega (arith, early j b)) (omega (arith, enough)),
      ))
    ];
  }

  kept_or_close : (j m : ℕ) → j < length xs → m ≤ j → (IsCrowdedPair c xs j (j - m) → ⊥) → KeepsSpan of.spans xs j m
  kept_or_close j m b l none = elim (cases_lt (get_or xs j 0 + 1 - get_or xs (j - m) 0) (get_or of.spans m 0)) [
    | inl close ↦ absurd (none (close_pair j m b l close))
    | inr far ↦ omega (arith, far, up (j - m) j 0 (omega arith) b)
  ]

  -- where no earlier pair is crowded and the needed distances are kept, none to number j is
  pub no_pair : (j : ℕ) → j < length xs → ((k i : ℕ) → k < j → IsCrowdedPair c xs k i → ⊥) →
      ((i : ℕ) → i < length needed → (distance_at needed i).apart ≤ j → KeepsSpan of.spans xs j (distance_at needed i).apart) →
      (i : ℕ) → IsCrowdedPair c xs j i → ⊥
  no_pair j b free look i pair =
      let within = pair.within in
      let kept = needed_decide_law of.spans needed xs j of.decided (omega (arith, of.counted))
      (λ k m below l. kept_or_close k m (omega arith) l (free k (k - m) below)) look (j - i) (omega arith) in
      let e : j - (j - i) ≡ i = omega arith in
      let long : get_or of.spans (j - i) 0 ≤ get_or xs j 0 + 1 - get_or xs i 0 = omega (arith, kept, ap (λ (w : ℕ). get_or xs w 0) e) in
      omega (arith, pair.many, (of.are (j - i) (omega (arith, of.counted))).admits (get_or xs j 0 + 1 - get_or xs i 0) (omega (arith, early j b)) long)

-- which distances were looked at
abbrev pub AreKept : List Distance → List ℕ → ℕ → ℕ → Type 0
AreKept needed xs j n = (i : ℕ) → i < n → i < length needed → (distance_at needed i).apart ≤ j →
    (distance_at needed i).span + get_or xs (j - (distance_at needed i).apart) 0 ≤ get_or xs j 0 + 1

module _ (c : Curve) (xs : List ℕ) (up : IsNonDecreasing xs) (early : (i : ℕ) → i < length xs → get_or xs i 0 ≤ greatest_number)
    (needed : List Distance) (of : AreNeededOf c (length xs) needed) (j : ℕ) (b : j < length xs) (free : (k i : ℕ) → k < j → IsCrowdedPair c xs k i → ⊥) where
  -- all of them were
  pub none_looked : AreKept needed xs j (length needed) → (i : ℕ) → IsCrowdedPair c xs j i → ⊥
  none_looked kept = no_pair c xs up early needed of j b free (λ i l m. omega (arith, kept i l l m, of.decided.each i l))

  -- up to one that is further apart than the jobs so far, and so are those after it
  pub none_further : (n : ℕ) → n < length needed → AreKept needed xs j n → j < (distance_at needed n).apart →
      (i : ℕ) → IsCrowdedPair c xs j i → ⊥
  none_further n listed kept far = none_looked (λ i l m near. elim (cases_lt i n) [
    | inl before ↦ kept i before m near
    | inr after ↦ absurd (elim (cases_lt n i) [
      | inl later ↦ omega (arith, far, near, of.decided.ascending n i later m)
      | inr same ↦ let e : i ≡ n = omega arith in omega (arith, far, near, ap (λ (w : ℕ). (distance_at needed w).apart) e)
    ])
  ])

  -- one that is not kept
  pub some_pair : (n : ℕ) → n < length needed → (distance_at needed n).apart ≤ j →
      get_or xs j 0 + 1 - get_or xs (j - (distance_at needed n).apart) 0 < (distance_at needed n).span →
      (i : ℕ) × IsCrowdedPair c xs j i
  some_pair n listed near close = (
    j - (distance_at needed n).apart,
    close_pair c xs up early needed of j (distance_at needed n).apart b near
        (omega (arith, close, of.decided.each n listed)),
  )

module _ (c : Curve) (xs : List ℕ) (up : IsNonDecreasing xs) (early : (i : ℕ) → i < length xs → get_or xs i 0 ≤ greatest_number)
    (needed : List Distance) (of : AreNeededOf c (length xs) needed) (kept : (i : ℕ) → i < length needed →
    DoKeep xs (distance_at needed i) (distance_at needed i).apart (length xs)) where
  -- where all arrivals keep the needed distances, no pair below number n is crowded
  pub none_below : (n j i : ℕ) → j < n → j < length xs → IsCrowdedPair c xs j i → ⊥
  none_below zero j i l b pair = absurd (omega arith)
  none_below (suc n) j i l b pair =
      none_looked c xs up early needed of j b (λ k m below other. none_below n k m (omega arith) (omega arith) other)
      (λ m listed _ near. kept m listed j near b) i pair

-- one distance more, which follows from a shorter one
pub needed_same : (spans : List ℕ) (needed : List Distance) (m : ℕ) → AreNeededBelow spans m needed → (p : ℕ) → Follows spans m p →
    AreNeededBelow spans (m + 1) needed
needed_same spans needed m are p follows = record {
  decide = λ n h. elim (cases_lt n m) [
    | inl l ↦ are.decide n l
    | inr l ↦ let e : m ≡ n = omega arith in inr (p, subst (λ w. Follows spans w p) e follows)
  ];
  below = λ i h. omega (arith, are.below i h);
  each = are.each;
  ascending = are.ascending;
}

module _ (spans : List ℕ) (needed : List Distance) (m : ℕ) (are : AreNeededBelow spans m needed) (x : Distance)
    (is_apart : x.apart ≡ m) (is_span : x.span ≡ get_or spans m 0) where
  abbrev more : List Distance
  more = needed ++ x ∷ []

  count : length more ≡ length needed + 1
  count = omega (arith, length-append needed (x ∷ []))

  old_at : (i : ℕ) → i < length needed → distance_at more i ≡ distance_at needed i
  old_at i h = get_or_append_left needed (x ∷ []) no_distance i h

  new_at : distance_at more (length needed) ≡ x
  new_at =
      let none : length needed - length needed ≡ 0 = omega arith in
      get_or-append_right needed (x ∷ []) (length needed) (length needed) no_distance refl (omega arith) ∙ ap (λ (w : ℕ). get_or (x ∷ []) w no_distance) none

  old_listed : (n : ℕ) → IsListed needed n → IsListed more n
  old_listed n at = record {
    place = at.place;
    listed = omega (arith, count, at.listed);
    apart =
        ap (λ (d : Distance). d.apart) (old_at at.place at.listed) ∙ at.apart;
  }

  new_listed : IsListed more m
  new_listed = record { place = length needed; listed = omega (arith, count); apart = ap (λ (d : Distance). d.apart) new_at ∙ is_apart }

  -- each of them, old or new
  each_of : (P : Distance → Type 0) → ((i : ℕ) → i < length needed → P (distance_at needed i)) → P x → (i : ℕ) → i < length more →
      P (distance_at more i)
  each_of P old new i h = elim (cases_lt i (length needed)) [
    | inl l ↦ subst P (sym (old_at i l)) (old i l)
    | inr l ↦ let e : length needed ≡ i = omega (arith, count) in subst (λ w. P (distance_at more w)) e (subst P (sym new_at) new)
  ]

  pub needed_more : AreNeededBelow spans (m + 1) (needed ++ x ∷ [])
  needed_more = record {
    decide = λ n h. elim (cases_lt n m) [
      | inl l ↦ elim (are.decide n l) [ inl at ↦ inl (old_listed n at) | inr by ↦ inr by ]
      | inr l ↦ let e : m ≡ n = omega arith in inl (subst (IsListed more) e new_listed)
    ];
    below = each_of (λ d. d.apart < m + 1) (λ i h. omega (arith, are.below i h)) (omega (arith, is_apart));
    each = each_of (λ d. d.span ≡ get_or spans d.apart 0) are.each (omega (arith, is_span, ap (λ (w : ℕ). get_or spans w 0) is_apart));
    ascending = λ i k h l. elim (cases_lt k (length needed)) [
      | inl old ↦ omega (arith, are.ascending i k h old, ap (λ (d : Distance). d.apart) (old_at k old), ap (λ (d : Distance). d.apart) (old_at i (omega arith)))
      | inr new ↦
          let e : k ≡ length needed = omega (arith, count) in
          omega (
            arith,
            are.below i (omega arith),
            ap (λ (d : Distance). d.apart) (old_at i (omega arith)),
            ap (λ (w : ℕ). (distance_at more w).apart) e,
            ap (λ (d : Distance). d.apart) new_at,
            is_apart,
          )
    ];
  }

pub needed_none : (spans : List ℕ) → AreNeededBelow spans 0 []
needed_none spans = record {
  decide = λ m h. absurd (omega arith);
  below = λ i h. absurd (omega arith);
  each = λ i h. absurd (omega arith);
  ascending = λ i k h l. absurd (omega arith);
}
