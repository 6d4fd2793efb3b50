-- Windows from one arrival to another decide which tick is crowded.
use Rattle.std.proofs.Common.{◌≡◌, ℕ, zero, suc, ◌+◌, ◌-◌, ◌<◌, ◌≤◌, List, length, get_or, Some, None, refl, subst, inl, inr, arith}
use Rattle.std.specs.List.Sorted.{IsNonDecreasing}
use Rattle.std.proofs.lemmas.Bool.{cases_lt}
use Rattle.curve.specs.CurveValue.{Curve}
use Rattle.curve.specs.Validity.{IsCurve}
use Rattle.curve.proofs.CurveFacts.{alpha_mono}
use Rattle.windows.specs.Crowds.{IsCrowdedTick, IsCrowdedPair, IsFirstCrowdedTick}
use Rattle.windows.proofs.ArrivalFacts.{arrived_range, arrived_between}

-- the first number below n at which a rising list has reached a bound, or n
pub record IsReached (xs : List ℕ) (bound n i : ℕ) : Type 0 where
  pub within : i ≤ n
  pub before : (k : ℕ) → k < i → get_or xs k 0 < bound
  pub here : i < n → bound ≤ get_or xs i 0

reached : (xs : List ℕ) (bound n : ℕ) → (i : ℕ) × IsReached xs bound n i
reached xs bound zero = (0, record { within = omega arith; before = λ k b. absurd (omega arith); here = λ l. absurd (omega arith) })
reached xs bound (suc n) =
    let r = reached xs bound n in
    let w = r.1.within in
    elim (cases_lt r.0 n) [
      | inl l ↦ (r.0, record { within = omega arith; before = r.1.before; here = λ _. r.1.here l })
      | inr e ↦ elim (cases_lt (get_or xs n 0) bound) [
        | inl low ↦ (
          suc n,
          record {
            within = omega arith;
            before = λ k b. elim (cases_lt k n) [
              | inl c ↦ r.1.before k (omega arith)
              | inr c ↦ let same : n ≡ k =
                  omega arith in subst (λ w. get_or xs w 0 < bound) same low
            ];
            here = λ l. absurd (omega arith);
          },
        )
        | inr high ↦ (n, record { within = omega arith; before = λ k b. r.1.before k (omega arith); here = λ _. high })
      ]
    ]

module _ (c : Curve) (ok : IsCurve c) (xs : List ℕ) (up : IsNonDecreasing xs) where
  -- a crowded pair crowds the tick of its last arrival
  pub pair_crowds : (j i : ℕ) → j < length xs → IsCrowdedPair c xs j i → IsCrowdedTick c xs (get_or xs j 0)
  pair_crowds j i b pair = record {
    start = get_or xs i 0;
    within = up i j 0 pair.within b;
    many = omega (
      arith,
      pair.many,
      arrived_range xs (get_or xs i 0) (get_or xs j 0 + 1) i (j + 1) (omega arith)
          (λ k l m. up i k 0 l (omega arith)) (λ k l m. omega (arith, up k j 0 (omega arith) b)),
    );
  }

  -- where no pair up to number m is crowded, no tick before the arrival m is
  pub no_tick : (m : ℕ) → m ≤ length xs → ((j i : ℕ) → j < m → IsCrowdedPair c xs j i → ⊥) → (b : ℕ) →
      ((k : ℕ) → m ≤ k → k < length xs → b < get_or xs k 0) → IsCrowdedTick c xs b → ⊥
  no_tick m h free b after crowd =
      let s = crowd.start in
      let first = reached xs s (length xs) in
      let last = reached xs (b + 1) m in
      let first_in = first.1.within in
      let last_in = last.1.within in
      let from_last : (k : ℕ) → last.0 ≤ k → k < length xs → b + 1 ≤ get_or xs k 0 = λ k l below. elim (cases_lt last.0 m) [
        | inl c ↦ omega (arith, last.1.here c, up last.0 k 0 l below)
        | inr c ↦ omega (arith, after k (omega arith) below)
      ] in
      let most = arrived_between xs s (b + 1) first.0 last.0 (omega arith) (λ k l below. first.1.before k l) from_last in
      elim (cases_lt first.0 last.0) [
        | inr none ↦ omega (arith, crowd.many, most)
        | inl some ↦ free (last.0 - 1) first.0 (omega arith) (record {
          within = omega arith;
          many = omega (
            arith,
            crowd.many,
            most,
            alpha_mono c ok (get_or xs (last.0 - 1) 0 + 1 - get_or xs first.0 0) (b + 1 - s)
                (omega (arith, last.1.before (last.0 - 1) (omega arith), first.1.here (omega arith))),
          );
        })
      ]

  pub tick_none : ((j i : ℕ) → j < length xs → IsCrowdedPair c xs j i → ⊥) → IsFirstCrowdedTick c xs None
  tick_none free b = no_tick (length xs) (omega arith) free b (λ k l m. absurd (omega arith))

  pub tick_some : (j i : ℕ) → j < length xs → ((k i : ℕ) → k < j → IsCrowdedPair c xs k i → ⊥) →
      IsCrowdedPair c xs j i → IsFirstCrowdedTick c xs (Some (get_or xs j 0))
  tick_some j i b free pair = (
    record {
      holds = pair_crowds j i b pair;
      least = λ t crowd. elim (cases_lt t (get_or xs j 0)) [
        | inr l ↦ l
        | inl l ↦ absurd (no_tick j (omega arith) free t (λ k m below. omega (arith, up j k 0 m below)) crowd)
      ];
    },
    (j, b, refl),
  )
