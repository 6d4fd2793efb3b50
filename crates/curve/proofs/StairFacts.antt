use Rattle.std.proofs.Common.{◌≡◌, ℕ, zero, suc, ◌+◌, ◌-◌, ◌*◌, ◌/◌, ◌%◌, ◌<◌, ◌≤◌, refl, List, [], ◌∷◌, length, slice_index_or, ap, subst, arith, inl, inr}
use Rattle.std.proofs.lemmas.Bool.{cases_lt, le-leb, lt-leb, lt-ltb, le-ltb}
use Rattle.std.specs.List.Sorted.{IsNonDecreasingBy}
use Rattle.std.proofs.lemmas.Nat.{div-add-mod', mod_below}
use Rattle.curve.specs.declared.prefix.Step.{Step}
use Rattle.curve.specs.declared.prefix.Stair.{Stair}
use Rattle.curve.specs.CurveValue.{Curve}
use Rattle.curve.specs.Curves.{last_value, value_of, alpha_of}
use Rattle.curve.specs.Rises.{next_time_of}
use Rattle.curve.specs.Stairs.{IsSplit, IsLanding, IsStair}
use Rattle.curve.specs.Validity.{IsCurve, last_time}
use Rattle.curve.proofs.CurveFacts.{RiseFrom, value_mono}
use Rattle.curve.proofs.RiseFacts.{last_time_kept, alpha_at, alpha_flat, next_near, next_rise_is}

-- every step is later than what stands before it
step_later : (steps : List Step) (time value : ℕ) → RiseFrom time value steps → (j : ℕ) (d : Step) → j < length steps → time < (slice_index_or steps j d).time
step_later [] time value r j d h = absurd (omega arith)
step_later (s ∷ steps) time value r zero d h = r.0
step_later (s ∷ steps) time value r (suc j) d h = omega (arith, r.0, step_later steps s.time s.value r.2 j d (omega arith))

pub times_rise : (steps : List Step) (time value : ℕ) → RiseFrom time value steps → (i j : ℕ) (d e : Step) → i ≤ j → j < length steps →
    (slice_index_or steps i d).time ≤ (slice_index_or steps j e).time
times_rise [] time value r i j d e h l = absurd (omega arith)
times_rise (s ∷ steps) time value r zero zero d e h l = omega arith
times_rise (s ∷ steps) time value r (suc i) zero d e h l = absurd (omega arith)
times_rise (s ∷ steps) time value r zero (suc j) d e h l = omega (arith, step_later steps s.time s.value r.2 j e (omega arith))
times_rise (s ∷ steps) time value r (suc i) (suc j) d e h l = times_rise steps s.time s.value r.2 i j d e (omega arith) (omega arith)

-- so the steps can be searched
pub times_sorted : (steps : List Step) → RiseFrom 0 0 steps → IsNonDecreasingBy (λ s. s.time) steps
times_sorted steps rise = λ i j d h l. times_rise steps 0 0 rise i j d d h l

-- so the two steps at a border tell of all
pub split_here : (steps : List Step) (t n : ℕ) (d : Step) → RiseFrom 0 0 steps → (n ≡ 0 → ⊥) → n ≤ length steps → (slice_index_or steps (n - 1) d).time ≤ t →
    (n < length steps → t < (slice_index_or steps n d).time) → IsSplit steps t n
split_here steps t n d rise some within early late = record {
  within = within;
  early = λ k e h. omega (arith, early, times_rise steps 0 0 rise k (n - 1) e d (omega (arith, h)) (omega (arith, some, within)));
  late = λ k e h l. omega (arith, late (omega (arith, h, l)), times_rise steps 0 0 rise n k d e h l);
}

-- past the first step
split_rest : (s : Step) (steps : List Step) (t n : ℕ) → IsSplit (s ∷ steps) t (suc n) → IsSplit steps t n
split_rest s steps t n split = record {
  within = omega (arith, split.within);
  early = λ k d h. split.early (suc k) d (omega arith);
  late = λ k d h l. split.late (suc k) d (omega arith) (omega arith);
}

-- before the first step
pub value_none : (steps : List Step) (before t : ℕ) → IsSplit steps t 0 → last_value before steps t ≡ before
value_none [] before t split = refl
value_none (s ∷ steps) before t split =
    rw (lt-leb s.time t (split.late 0 s (omega arith) (omega arith)))
    (value_none steps before t (record {
      within = omega arith;
      early = λ k d h. absurd (omega arith);
      late = λ k d h l. split.late (suc k) d (omega arith) (omega arith);
    }))

-- the last step that has come
pub value_split : (steps : List Step) (before t n : ℕ) (d : Step) → IsSplit steps t (suc n) → last_value before steps t ≡ (slice_index_or steps n d).value
value_split [] before t n d split = absurd (omega (arith, split.within))
value_split (s ∷ steps) before t zero d split =
    rw (le-leb s.time t (split.early 0 d (omega arith))) (value_none steps s.value t (split_rest s steps t 0 split))
value_split (s ∷ steps) before t (suc n) d split =
    rw (le-leb s.time t (split.early 0 d (omega arith))) (value_split steps s.value t n d (split_rest s steps t (suc n) split))

-- the first step that has not come
pub next_split : (horizon : ℕ) (steps : List Step) (t n : ℕ) (d : Step) → IsSplit steps t n → n < length steps →
    next_time_of horizon steps t ≡ (slice_index_or steps n d).time
next_split horizon [] t n d split h = absurd (omega arith)
next_split horizon (s ∷ steps) t zero d split h = rw (lt-ltb t s.time (split.late 0 d (omega arith) (omega arith))) refl
next_split horizon (s ∷ steps) t (suc n) d split h = rw (le-ltb t s.time (split.early 0 d (omega arith)))
    (next_split horizon steps t n d (split_rest s steps t n split) (omega arith))

pub next_end : (horizon : ℕ) (steps : List Step) (t n : ℕ) → IsSplit steps t n → length steps ≤ n → next_time_of horizon steps t ≡ horizon + 1
next_end horizon [] t n split h = refl
next_end horizon (s ∷ steps) t zero split h = absurd (omega arith)
next_end horizon (s ∷ steps) t (suc n) split h = rw (le-ltb t s.time (split.early 0 s (omega arith)))
    (next_end horizon steps t n (split_rest s steps t n split) (omega arith))

-- at the time of the last step that has come, the same steps have come
pub split_back : (steps : List Step) (t n : ℕ) (d : Step) → RiseFrom 0 0 steps → IsSplit steps t (suc n) → IsSplit steps (slice_index_or steps n d).time (suc n)
split_back steps t n d rise split = record {
  within = split.within;
  early = λ k e h. omega (arith, times_rise steps 0 0 rise k n e d (omega arith) (omega (arith, split.within)));
  late = λ k e h l. omega (arith, split.late k e h l, split.early n d (omega arith));
}

-- the same with the number before a count
pub value_last : (steps : List Step) (t n : ℕ) (d : Step) → IsSplit steps t n → (n ≡ 0 → ⊥) → last_value 0 steps t ≡ (slice_index_or steps (n - 1) d).value
value_last steps t zero d split some = absurd (some refl)
value_last steps t (suc n) d split some = let e : suc n - 1 ≡ n = omega arith in rw e (value_split steps 0 t n d split)

pub back_last : (steps : List Step) (t n : ℕ) (d : Step) → RiseFrom 0 0 steps → IsSplit steps t n → (n ≡ 0 → ⊥) →
    IsSplit steps (slice_index_or steps (n - 1) d).time n
back_last steps t zero d rise split some = absurd (some refl)
back_last steps t (suc n) d rise split some = let e : suc n - 1 ≡ n = omega arith in rw e (split_back steps t n d rise split)

-- before the landing's length, back to where its step came
value_back : (c : Curve) → IsCurve c → (r y : ℕ) (l : Stair) → IsLanding c.horizon c.steps r l → l.from ≤ y → y ≤ r → value_of c y ≡ value_of c r
unfolding value_of
value_back c ok r y l landing low high = omega (arith, value_mono c ok l.from y low, value_mono c ok y r high, landing.since)

stair_flat : (c : Curve) → IsCurve c → (q r y : ℕ) (l : Stair) → r < c.horizon → IsLanding c.horizon c.steps r l → l.from ≤ y → y < l.until →
    alpha_of c (q * c.horizon + y) ≡ q * value_of c c.horizon + value_of c r
stair_flat c ok q r y l b landing low high = elim (cases_lt r y) [
  | inl after ↦
      let near = next_near c ok r in
      omega (arith, alpha_flat c ok q r y b (omega arith) (omega (arith, landing.until)) (omega (arith, landing.until)), alpha_at c ok q r (omega arith))
  | inr back ↦ omega (arith, alpha_at c ok q y (omega arith), value_back c ok r y l landing low back)
]

stair_at : (c : Curve) → IsCurve c → (q r : ℕ) (l s : Stair) → r < c.horizon → IsLanding c.horizon c.steps r l → s.value ≡ q * value_of c c.horizon + l.value →
    s.from ≡ q * c.horizon + l.from → s.until ≡ q * c.horizon + l.until → IsStair c s (q * c.horizon + r)
unfolding value_of
stair_at c ok q r l s b landing value_is from_is until_is =
    let rise = (next_rise_is c ok q r b).holds in
    let until : q * c.horizon + next_time_of c.horizon c.steps r ≡ s.until = omega (arith, until_is, landing.until) in
    record {
      begun = omega (arith, from_is, landing.begun);
      open_yet = omega (arith, until, rise.later);
      flat = λ y low high.
          let at : q * c.horizon + (y - q * c.horizon) ≡ y = omega (arith, from_is, low) in
          omega (
            arith,
            ap (alpha_of c) at,
            stair_flat c ok q r (y - q * c.horizon) l b landing (omega (arith, from_is, low))
                (omega (arith, until_is, high, from_is, low)),
            landing.value,
            value_is,
          );
      higher = omega (arith, ap (alpha_of c) until, rise.higher, alpha_at c ok q r (omega arith), landing.value, value_is);
    }

pub stair_is : (c : Curve) → IsCurve c → (d : ℕ) (l s : Stair) → IsLanding c.horizon c.steps (d % c.horizon) l →
    s.value ≡ d / c.horizon * value_of c c.horizon + l.value → s.from ≡ d - d % c.horizon + l.from → s.until ≡ d - d % c.horizon + l.until → IsStair c s d
stair_is c ok d l s landing value_is from_is until_is =
    let whole = div-add-mod' d c.horizon in
    subst (IsStair c s) whole (stair_at c ok (d / c.horizon) (d % c.horizon) l s
    (mod_below d c.horizon ok.horizon_low) landing value_is (omega (arith, whole, from_is)) (omega (arith, whole, until_is)))

last_time_high : (steps : List Step) (time value : ℕ) → RiseFrom time value steps → (k : ℕ) (d : Step) → k < length steps →
    (slice_index_or steps k d).time ≤ last_time time steps
last_time_high [] time value r k d h = absurd (omega arith)
last_time_high (s ∷ steps) time value r zero d h = last_time_kept s.time s.value steps r.2
last_time_high (s ∷ steps) time value r (suc k) d h = last_time_high steps s.time s.value r.2 k d (omega arith)

pub all_split : (steps : List Step) (h : ℕ) → RiseFrom 0 0 steps → last_time 0 steps ≤ h → IsSplit steps h (length steps)
all_split steps h rise within = record {
  within = omega arith;
  early = λ k d l. omega (arith, last_time_high steps 0 0 rise k d l, within);
  late = λ k d a b. absurd (omega arith);
}
