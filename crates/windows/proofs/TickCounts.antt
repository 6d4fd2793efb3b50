-- The first short tick, from the counts of supplied ticks.
use Rattle.std.proofs.Common.{◌≡◌, ℕ, zero, suc, ◌+◌, ◌-◌, ◌<◌, ◌≤◌, Bool, true, false, cond, List, [], ◌∷◌, ◌++◌, length, get_or, ap, inl, inr}
use Rattle.std.proofs.Common.{arith, add-one}
use Rattle.std.proofs.lemmas.Bool.{cases_lt, both_ways, false_from_ne_true, true_from_ne_false}
use Rattle.std.proofs.lemmas.List.{length-append, get_or_append_left, get_or-append_right}
use Rattle.run_model.specs.declared.run.Run.{Run}
use Rattle.run_model.specs.Runs.{tick_at, is_on, ticks_in}
use Rattle.run_model.proofs.ServiceFacts.{ticks_in_none, ticks_in_more, ticks_in_split}
use Rattle.schedule_laws.specs.Tests.{is_short}
use Rattle.schedule_laws.proofs.TestFacts.{short_from, short_to}
use Rattle.windows.specs.Supplied.{AreCounts, ArePromised, MayBeOff}

pub counts_start : (run : Run) (counts : List ℕ) → counts ≡ 0 ∷ [] → AreCounts run counts 0
counts_start run counts e = record {
  counted = omega (arith, ap length e);
  each = λ s h. let z : s ≡ 0 = omega arith in omega (
    arith,
    ap (λ (l : List ℕ). get_or l 0 0) e,
    ap (λ (w : ℕ). get_or counts w 0) z,
    ap (ticks_in is_on run 0) z,
    ticks_in_none is_on run 0,
  );
}

pub counts_more : (run : Run) (counts : List ℕ) (t x : ℕ) → AreCounts run counts t →
    x ≡ ticks_in is_on run 0 (t + 1) → AreCounts run (counts ++ x ∷ []) (t + 1)
counts_more run counts t x are e = record {
  counted = omega (arith, are.counted, length-append counts (x ∷ []));
  each = λ s h. elim (cases_lt s (t + 1)) [
    | inl l ↦ omega (arith, get_or_append_left counts (x ∷ []) 0 s (omega (arith, are.counted)), are.each s (omega arith))
    | inr l ↦
        let last : s ≡ t + 1 = omega arith in
        let none : t + 1 - (t + 1) ≡ 0 = omega arith in
        omega (
          arith,
          ap (λ (w : ℕ). get_or (counts ++ x ∷ []) w 0) last,
          get_or-append_right counts (x ∷ []) (t + 1) (t + 1) 0 are.counted (omega arith),
          ap (λ (w : ℕ). get_or (x ∷ []) w 0) none,
          ap (ticks_in is_on run 0) last,
        )
  ];
}

-- one tick more
pub supplied_more : (run : Run) (t : ℕ) → t < length run.ticks →
    ticks_in is_on run 0 (t + 1) ≡ ticks_in is_on run 0 t + cond (is_on (tick_at run t)) 1 0
supplied_more run t h =
    let e : 0 + t ≡ t = omega arith in
    rw add-one (omega (arith, ticks_in_more is_on run 0 t (omega arith), ap (λ (w : ℕ). cond {A = ℕ} (is_on (tick_at run w)) 1 0) e))

module _ (sbf : ℕ → ℕ) (starts : sbf 0 ≡ 0) (grows : (d : ℕ) → (sbf d ≤ sbf (d + 1)) × (sbf (d + 1) ≤ sbf d + 1)) (run : Run)
    (counts : List ℕ) (t : ℕ) (are : AreCounts run counts t) where
  -- in a window [s, u) of the ticks so far
  window_of : (s u : ℕ) → s ≤ u → u ≤ t → t ≤ length run.ticks →
      get_or counts u 0 ≡ get_or counts s 0 + ticks_in is_on run s (u - s)
  window_of s u h l m =
      let e : s + (u - s) ≡ u = omega arith in
      omega (arith, are.each s (omega arith), are.each u l, ticks_in_split is_on run s (u - s) (omega arith), ap (ticks_in is_on run 0) e)

  kept_by : ((v : ℕ) → v < t → is_short sbf run (v + 1) ≡ false) → t ≤ length run.ticks → (s u : ℕ) → s ≤ u →
      u ≤ t → sbf (u - s) + get_or counts s 0 ≤ get_or counts u 0
  kept_by free m s zero h l =
      let z : s ≡ 0 = omega arith in
      let d : 0 - s ≡ 0 = omega arith in
      omega (arith, ap sbf d, ap (λ (w : ℕ). get_or counts w 0) z)
  kept_by free m s (suc v) h l = elim (cases_lt (ticks_in is_on run s (suc v - s)) (sbf (suc v - s))) [
    | inl few ↦ absurd (both_ways (is_short sbf run (suc v)) (rw add-one at (free v (omega arith)))
        (short_to sbf run (suc v) (record { start = s; within = h; few = few })))
    | inr enough ↦ omega (arith, window_of s (suc v) h l m)
  ]

  -- where no tick is short so far
  pub are_promised : ((v : ℕ) → v < t → is_short sbf run (v + 1) ≡ false) → t ≤ length run.ticks →
      ArePromised sbf counts t
  are_promised free m = record { counted = are.counted; kept = kept_by free m }

  -- a window that ends with tick t
  pub window_now : (s : ℕ) → s ≤ t → t < length run.ticks →
      get_or counts t 0 + cond (is_on (tick_at run t)) 1 0 ≡ get_or counts s 0 + ticks_in is_on run s (t + 1 - s)
  window_now s h l =
      let e : s + (t + 1 - s) ≡ t + 1 = omega arith in
      omega (
        arith,
        are.each s h,
        are.each t (omega arith),
        supplied_more run t l,
        ticks_in_split is_on run s (t + 1 - s) (omega arith),
        ap (ticks_in is_on run 0) e,
      )

  -- where every window that ends with tick t has the promised ticks, none is short
  none_short : ((s : ℕ) → s ≤ t → sbf (t + 1 - s) ≤ ticks_in is_on run s (t + 1 - s)) → is_short sbf run (t + 1) ≡ false
  none_short enough = false_from_ne_true (is_short sbf run (t + 1)) (λ h.
      let short = short_from sbf run (t + 1) h in
      elim (cases_lt t short.start) [
        | inl c ↦
            let d : t + 1 - short.start ≡ 0 = omega arith in
            omega (arith, short.few, ap sbf d)
        | inr c ↦ omega (arith, short.few, enough short.start c)
      ])

  -- with a supplied tick no window is the first short one
  pub on_fine : ArePromised sbf counts t → t < length run.ticks → is_on (tick_at run t) ≡ true →
      is_short sbf run (t + 1) ≡ false
  on_fine past l on = none_short (λ s c.
      let d : t + 1 - s ≡ t - s + 1 = omega arith in
      omega (arith, window_now s c l, ap (λ (b : Bool). cond {A = ℕ} b 1 0) on, past.kept s t c (omega arith), (grows (t - s)).1, ap sbf d))

  pub off_fine : MayBeOff sbf counts t → t < length run.ticks → is_on (tick_at run t) ≡ false →
      is_short sbf run (t + 1) ≡ false
  off_fine may l off = none_short (λ s c. omega (arith, window_now s c l, ap (λ (b : Bool). cond {A = ℕ} b 1 0) off, may s c))

  pub off_short : (MayBeOff sbf counts t → ⊥) → t < length run.ticks → is_on (tick_at run t) ≡ false →
      is_short sbf run (t + 1) ≡ true
  off_short never l off = true_from_ne_false (is_short sbf run (t + 1))
      (λ h. never (λ s c. elim (cases_lt (get_or counts t 0) (sbf (t + 1 - s) + get_or counts s 0)) [
        | inr enough ↦ enough
        | inl few ↦ absurd (both_ways (is_short sbf run (t + 1)) h (short_to sbf run (t + 1) (record {
          start = s;
          within = omega arith;
          few = omega (arith, few, window_now s c l, ap (λ (b : Bool). cond {A = ℕ} b 1 0) off);
        })))
      ]))

-- the counts so far, and the last of them
pub record KeepsCount (run : Run) (xs : List ℕ) (t x : ℕ) : Type 0 where
  pub counts : AreCounts run xs t
  pub supplied : x ≡ ticks_in is_on run 0 t
  pub few : x ≤ t

pub count_start : (run : Run) (xs : List ℕ) → xs ≡ 0 ∷ [] → KeepsCount run xs 0 0
count_start run xs e = record { counts = counts_start run xs e; supplied = omega (arith, ticks_in_none is_on run 0); few = omega arith }

pub count_on : (run : Run) (xs : List ℕ) (t x y : ℕ) → t < length run.ticks → KeepsCount run xs t x →
    is_on (tick_at run t) ≡ true → y ≡ x + 1 → KeepsCount run (xs ++ y ∷ []) (t + 1) y
count_on run xs t x y h kept on e =
    let is : y ≡ ticks_in is_on run 0 (t + 1) = omega (arith, kept.supplied, supplied_more run t h, ap (λ (b : Bool). cond {A = ℕ} b 1 0) on) in
    record { counts = counts_more run xs t y kept.counts is; supplied = is; few = omega (arith, kept.few) }

pub count_off : (run : Run) (xs : List ℕ) (t x y : ℕ) → t < length run.ticks → KeepsCount run xs t x →
    is_on (tick_at run t) ≡ false → y ≡ x → KeepsCount run (xs ++ y ∷ []) (t + 1) y
count_off run xs t x y h kept off e =
    let is : y ≡ ticks_in is_on run 0 (t + 1) = omega (arith, kept.supplied, supplied_more run t h, ap (λ (b : Bool). cond {A = ℕ} b 1 0) off) in
    record { counts = counts_more run xs t y kept.counts is; supplied = is; few = omega (arith, kept.few) }
