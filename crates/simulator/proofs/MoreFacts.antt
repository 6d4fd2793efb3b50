-- Arrivals with more jobs at a tick, and how early the gaps let the next job come after them.
use Rattle.std.proofs.Common.{◌≡◌, ℕ, ◌+◌, ◌-◌, ◌<◌, ◌≤◌, ◌⊎◌, List, length, get_or, max, replicate, refl, sym, ◌∙◌, ap, inl, inr, arith}
use Rattle.std.specs.List.Sorted.{IsNonDecreasing}
use Rattle.std.proofs.lemmas.Bool.{cases_lt}
use Rattle.std.proofs.lemmas.List.{length-append, length-replicate, get_or-replicate, get_or_append_left, get_or-append_right}
use Rattle.std.proofs.lemmas.List.Sorted.{IsNonDecreasingBy-from_default}
use Rattle.lists.specs.Sums.{max_below}
use Rattle.lists.proofs.SumFacts.{max_at_least}
use Rattle.simulator.specs.declared.gaps.Gap.{Gap}
use Rattle.simulator.specs.Gaps.{gap_at, no_gap, opened_by, earliest_by, with_more, AreLow, AreNear, AreRising}
use Rattle.simulator.proofs.GapFacts.{opened_at, opened_not, max_stands}

pub more_length : (xs : List ℕ) (n t : ℕ) → length (with_more xs n t) ≡ length xs + n
more_length xs n t = length-append xs (replicate n t) ∙ ap (λ k. length xs + k) (length-replicate n t)

pub more_own : (xs : List ℕ) (n t i : ℕ) → i < length xs → get_or (with_more xs n t) i 0 ≡ get_or xs i 0
more_own xs n t i b = get_or_append_left xs (replicate n t) 0 i b

pub more_new : (xs : List ℕ) (n t i : ℕ) → length xs ≤ i → i < length xs + n → get_or (with_more xs n t) i 0 ≡ t
more_new xs n t i h b = get_or-append_right xs (replicate n t) (length xs) i 0 refl h ∙ get_or-replicate n (i - length xs) t 0 (omega arith)

pub more_sorted : (xs : List ℕ) (n t : ℕ) → IsNonDecreasing xs → ((i : ℕ) → i < length xs → get_or xs i 0 ≤ t) → IsNonDecreasing (with_more xs n t)
more_sorted xs n t sorted early =
    IsNonDecreasingBy-from_default (λ x. x) (with_more xs n t) 0 (λ i j h b. (
    let len = more_length xs n t in
    elim (cases_lt j (length xs)) [
      | inl l ↦ omega (arith, more_own xs n t i (omega arith), more_own xs n t j l, sorted i j 0 h l)
      | inr l ↦ elim (cases_lt i (length xs)) [
        | inl k ↦ omega (arith, more_own xs n t i k, more_new xs n t j l (omega (arith, len)), early i k)
        | inr k ↦ omega (arith, more_new xs n t i k (omega (arith, len)), more_new xs n t j l (omega (arith, len)))
      ]
    ]
    ))

pub more_near : (xs : List ℕ) (n t : ℕ) → AreNear xs → t ≤ 4000000000 → AreNear (with_more xs n t)
more_near xs n t near early i b =
    let len = more_length xs n t in
    elim (cases_lt i (length xs)) [
      | inl l ↦ omega (arith, more_own xs n t i l, near i l)
      | inr l ↦ omega (arith, more_new xs n t i l (omega (arith, len)))
    ]

-- the job so many places before the next

pub before_new : (xs : List ℕ) (n t count : ℕ) → 1 ≤ count → count ≤ n → t ≡ get_or (with_more xs n t) (length xs + n - count) 0
before_new xs n t count low h = sym (more_new xs n t (length xs + n - count) (omega arith) (omega arith))

pub before_own : (xs : List ℕ) (n t count : ℕ) → n < count → count ≤ length xs + n →
    get_or xs (length xs - (count - n)) 0 ≡ get_or (with_more xs n t) (length xs + n - count) 0
before_own xs n t count h b =
    let e : length xs - (count - n) ≡ length xs + n - count = omega arith in
    ap (λ i. get_or xs i 0) e ∙ sym (more_own xs n t (length xs + n - count) (omega arith))

pub before_small : (xs : List ℕ) (n t count : ℕ) → AreNear (with_more xs n t) → 1 ≤ count → count ≤ length xs + n →
    get_or (with_more xs n t) (length xs + n - count) 0 ≤ 4000000000
before_small xs n t count near low h = near (length xs + n - count) (omega (arith, more_length xs n t))

-- what a gap opens

pub opened_near : (xs : List ℕ) (n t : ℕ) (g : Gap) → g.count ≤ length xs + n →
    opened_by (with_more xs n t) g ≡ get_or (with_more xs n t) (length xs + n - g.count) 0 + g.distance
opened_near xs n t g h =
    let len = more_length xs n t in
    opened_at (with_more xs n t) g (omega (arith, len)) ∙ ap (λ k. get_or (with_more xs n t) (k - g.count) 0 + g.distance) len

pub opened_far : (xs : List ℕ) (n t : ℕ) (g : Gap) → length xs + n < g.count → opened_by (with_more xs n t) g ≡ 0
opened_far xs n t g h = opened_not (with_more xs n t) g (omega (arith, more_length xs n t))

-- from the gap number i on all have been looked at
pub record AreSeen (gaps : List Gap) (ys : List ℕ) (i tick : ℕ) : Type 0 where
  pub seen : (k : ℕ) → i ≤ k → k < length gaps → opened_by ys (gap_at gaps k) ≤ tick
  pub stands : (tick ≡ 0) ⊎ ((k : ℕ) × (k < length gaps) × (tick ≡ opened_by ys (gap_at gaps k)))

pub seen_start : (gaps : List Gap) (xs : List ℕ) (n t i : ℕ) →
    ((k : ℕ) → i ≤ k → k < length gaps → length xs + n < (gap_at gaps k).count) → AreSeen gaps (with_more xs n t) i 0
seen_start gaps xs n t i far = record { seen = λ k h b. omega (arith, opened_far xs n t (gap_at gaps k) (far k h b)); stands = inl refl }

pub seen_next : (gaps : List Gap) (ys : List ℕ) (i j tick opened new : ℕ) → AreSeen gaps ys i tick → i ≡ j + 1 → j < length gaps →
    opened ≡ opened_by ys (gap_at gaps j) → new ≡ max tick opened → AreSeen gaps ys j new
seen_next gaps ys i j tick opened new was next b is most = record {
  seen = λ k h l. elim (cases_lt k i) [
    | inl c ↦ let e : k ≡ j = omega arith in omega (arith, is, most, ap (λ v. opened_by ys (gap_at gaps v)) e)
    | inr c ↦ omega (arith, was.seen k c l, most)
  ];
  stands = elim (cases_lt tick opened) [
    | inl c ↦ inr (j, b, omega (arith, is, most))
    | inr c ↦ elim was.stands [
      | inl e ↦ inl (omega (arith, e, most))
      | inr p ↦ inr (p.0, p.1, omega (arith, p.2, most))
    ]
  ];
}

pub seen_end : (gaps : List Gap) (ys : List ℕ) (i tick : ℕ) → AreSeen gaps ys i tick →
    ((k : ℕ) → k < i → k < length gaps → opened_by ys (gap_at gaps k) ≤ tick) →
    tick ≡ earliest_by gaps ys
seen_end gaps ys i tick are rest =
    let f : ℕ → ℕ = λ k. opened_by ys (gap_at gaps k) in
    let each : (k : ℕ) → k < length gaps → f k ≤ tick = λ k b. elim (cases_lt k i) [
      | inl l ↦ rest k l b
      | inr l ↦ are.seen k l b
    ] in
    let below : max_below f (length gaps) ≤ tick = elim (max_stands f (length gaps)) [
      | inl e ↦ omega (arith, e)
      | inr o ↦ omega (arith, o.2, each o.0 o.1)
    ] in
    elim are.stands [
      | inl e ↦ omega (arith, e, below)
      | inr p ↦ omega (arith, p.2, below, max_at_least f (length gaps) p.0 p.1)
    ]

-- where the one of the most jobs opens nothing later, even from the latest arrival, none of the rest does
pub rest_early : (gaps : List Gap) (xs : List ℕ) (n t i tick latest : ℕ) → AreLow gaps → AreRising gaps → IsNonDecreasing (with_more xs n t) →
    ((k : ℕ) → k < i → (gap_at gaps k).count ≤ length xs + n) → 0 < i → i ≤ length gaps →
    latest ≡ get_or (with_more xs n t) (length xs + n - (gap_at gaps 0).count) 0 → latest + (gap_at gaps (i - 1)).distance ≤ tick →
    (k : ℕ) → k < i → k < length gaps → opened_by (with_more xs n t) (gap_at gaps k) ≤ tick
rest_early gaps xs n t i tick latest low rising sorted near some within is few k h b =
    let more = rising.counts 0 k no_gap (omega arith) b in
    let longer = rising.distances k (i - 1) no_gap (omega arith) (omega arith) in
    let first = (low 0 (omega arith)).low in
    let close = near k h in
    omega (
      arith,
      is,
      few,
      longer,
      opened_near xs n t (gap_at gaps k) close,
      sorted (length xs + n - (gap_at gaps k).count) (length xs + n - (gap_at gaps 0).count) 0 (omega (arith, more))
          (omega (arith, first, close, more, more_length xs n t)),
    )
