use Rattle.std.proofs.Common.{◌≡◌, ℕ, zero, suc, ◌+◌, ◌<◌, ◌≤◌, Bool, true, cond, leb, List, [], ◌∷◌, ◌++◌, length, refl, sym, ◌∙◌, ap, arith, inl}
use Rattle.std.proofs.Common.{inr, add-zero}
use Rattle.std.specs.List.{list_all}
use Rattle.std.proofs.lemmas.Bool.{cases_lt, and_parts, and_from, eq-eqb, lt-ltb, le-ltb, le-leb, lt-leb}
use Rattle.std.proofs.lemmas.Bool.Decides.{nat_tests}
use Rattle.std.proofs.lemmas.List.{length-append}
use Rattle.curve.specs.declared.prefix.Step.{Step}
use Rattle.curve.specs.Curves.{last_value}
use Rattle.curve.specs.Validity.{is_step, last_time, starts_at_one, rise_from}
use Rattle.curve.proofs.CurveFacts.{StartsAtOne, RiseFrom}
use Rattle.curve_infer.specs.Curves.{steps_to}

-- a function that begins with 0 and does not fall
pub record IsRising (f : ℕ → ℕ) : Type 0 where
  pub begins : f 0 ≡ 0
  pub mono : (d e : ℕ) → d ≤ e → f d ≤ f e

abbrev pub step_at : (ℕ → ℕ) → ℕ → Step
step_at f d = record { time = d; value = f d }

-- the tests of a curve, put together
pub starts_test : (steps : List Step) → StartsAtOne steps → starts_at_one steps ≡ true
starts_test [] h = absurd h
starts_test (s ∷ steps) h = eq-eqb s.time 1 h

pub rise_test : (time value : ℕ) (steps : List Step) → RiseFrom time value steps → rise_from time value steps ≡ true
rise_test time value [] h = refl
rise_test time value (s ∷ steps) h = and_from _ _ (lt-ltb time s.time h.0) (and_from _ _ (lt-ltb value s.value h.1) (rise_test s.time s.value steps h.2))

-- one number more: a step, or none
pub step_here : (f : ℕ → ℕ) (n : ℕ) → f n < f (suc n) → steps_to f (suc n) ≡ steps_to f n ++ (step_at f (suc n) ∷ [])
step_here f n h = rw (lt-ltb (f n) (f (suc n)) h) refl

pub none_here : (f : ℕ → ℕ) (n : ℕ) → f (suc n) ≤ f n → steps_to f (suc n) ≡ steps_to f n
none_here f n h = rw (le-ltb (f n) (f (suc n)) h) refl

-- no step where the function stays
pub steps_flat : (f : ℕ → ℕ) → IsRising f → (m k : ℕ) → f (m + k) ≤ f m → steps_to f (m + k) ≡ steps_to f m
steps_flat f rises m zero h = rw add-zero refl
steps_flat f rises m (suc k) h =
    let at : m + suc k ≡ suc (m + k) = omega arith in
    let low = rises.mono m (m + k) (omega arith) in
    let high = rises.mono (m + k) (suc (m + k)) (omega arith) in
    let same = ap f at in
    ap (steps_to f) at ∙ none_here f (m + k) (omega (arith, h, same, low)) ∙ steps_flat f rises m k (omega (arith, h, same, high))

value_append : (steps : List Step) (s : Step) (before t : ℕ) → last_value before (steps ++ (s ∷ [])) t ≡ cond (leb s.time t) s.value (last_value before steps t)
value_append [] s before t = refl
value_append (r ∷ steps) s before t = value_append steps s (cond (leb r.time t) r.value before) t

value_come : (steps : List Step) (s : Step) (before t : ℕ) → s.time ≤ t → last_value before (steps ++ (s ∷ [])) t ≡ s.value
value_come steps s before t h =
    let e = le-leb s.time t h in
    value_append steps s before t ∙ ap (λ (b : Bool). cond {A = ℕ} b s.value (last_value before steps t)) e

value_not : (steps : List Step) (s : Step) (before t : ℕ) → t < s.time → last_value before (steps ++ (s ∷ [])) t ≡ last_value before steps t
value_not steps s before t h =
    let e = lt-leb s.time t h in
    value_append steps s before t ∙ ap (λ (b : Bool). cond {A = ℕ} b s.value (last_value before steps t)) e

-- the steps have the function's values
value_all : (f : ℕ → ℕ) → IsRising f → (n t : ℕ) → n ≤ t → last_value 0 (steps_to f n) t ≡ f n
value_all f rises zero t h = sym rises.begins
value_all f rises (suc n) t h = elim (cases_lt (f n) (f (suc n))) [
  | inl c ↦ rw (step_here f n c) (value_come (steps_to f n) (step_at f (suc n)) 0 t h)
  | inr c ↦ rw (none_here f n c) (omega (arith, value_all f rises n t (omega arith), rises.mono n (suc n) (omega arith), c))
]

pub value_steps : (f : ℕ → ℕ) → IsRising f → (n t : ℕ) → t ≤ n → last_value 0 (steps_to f n) t ≡ f t
value_steps f rises zero t h = let e : 0 ≡ t = omega arith in sym rises.begins ∙ ap f e
value_steps f rises (suc n) t h = elim (cases_lt t (suc n)) [
  | inr c ↦ let e : suc n ≡ t = omega arith in value_all f rises (suc n) t (omega arith) ∙ ap f e
  | inl b ↦ elim (cases_lt (f n) (f (suc n))) [
    | inl c ↦ rw (step_here f n c) (value_not (steps_to f n) (step_at f (suc n)) 0 t b ∙ value_steps f rises n t (omega arith))
    | inr c ↦ rw (none_here f n c) (value_steps f rises n t (omega arith))
  ]
]

-- the value of the last step
abbrev pub top_value : ℕ → List Step → ℕ
top_value before [] = before
top_value before (s ∷ steps) = top_value s.value steps

rise_append : (steps : List Step) (s : Step) (time value : ℕ) → RiseFrom time value steps → last_time time steps < s.time →
    top_value value steps < s.value → RiseFrom time value (steps ++ (s ∷ []))
rise_append [] s time value rise later higher = (later, higher, tt)
rise_append (r ∷ steps) s time value rise later higher = (rise.0, rise.1, rise_append steps s r.time r.value rise.2 later higher)

time_append : (steps : List Step) (s : Step) (time : ℕ) → last_time time (steps ++ (s ∷ [])) ≡ s.time
time_append [] s time = refl
time_append (r ∷ steps) s time = time_append steps s r.time

top_append : (steps : List Step) (s : Step) (value : ℕ) → top_value value (steps ++ (s ∷ [])) ≡ s.value
top_append [] s value = refl
top_append (r ∷ steps) s value = top_append steps s r.value

all_append : (steps : List Step) (s : Step) → list_all is_step steps ≡ true → is_step s ≡ true → list_all is_step (steps ++ (s ∷ [])) ≡ true
all_append [] s h e = and_from _ _ e refl
all_append (r ∷ steps) s h e =
    let parts = and_parts (is_step r) (list_all is_step steps) h in
    and_from _ _ parts.0 (all_append steps s parts.1 e)

starts_append : (steps : List Step) (s : Step) → StartsAtOne steps → StartsAtOne (steps ++ (s ∷ []))
starts_append [] s h = absurd h
starts_append (r ∷ steps) s h = h

step_fits : (f : ℕ → ℕ) (d : ℕ) → 1 ≤ d → d ≤ 1000000000 → 1 ≤ f d → f d ≤ 1000000 → is_step (step_at f d) ≡ true
step_fits f d low high some few = grind (arith, nat_tests)

-- what a curve wants of its steps
pub record AreSteps (f : ℕ → ℕ) (n : ℕ) (steps : List Step) : Type 0 where
  pub few : length steps ≤ f n
  pub fit : list_all is_step steps ≡ true
  pub rising : RiseFrom 0 0 steps
  pub last : last_time 0 steps ≤ n
  pub top : top_value 0 steps ≡ f n

pub steps_are : (f : ℕ → ℕ) → IsRising f → (n : ℕ) → n ≤ 1000000000 → f n ≤ 1000000 → AreSteps f n (steps_to f n)
steps_are f rises zero h few = record { few = omega arith; fit = refl; rising = tt; last = omega arith; top = sym rises.begins }
steps_are f rises (suc n) h few =
    let grows = rises.mono n (suc n) (omega arith) in
    let before = steps_are f rises n (omega arith) (omega (arith, grows, few)) in
    elim (cases_lt (f n) (f (suc n))) [
      | inl c ↦ rw (step_here f n c) (record {
        few = omega (arith, length-append (steps_to f n) (step_at f (suc n) ∷ []), before.few, c);
        fit = all_append (steps_to f n) (step_at f (suc n)) before.fit (step_fits f (suc n) (omega arith) h (omega (arith, c)) few);
        rising = rise_append (steps_to f n) (step_at f (suc n)) 0 0 before.rising (omega (arith, before.last)) (omega (arith, before.top, c));
        last = omega (arith, time_append (steps_to f n) (step_at f (suc n)) 0);
        top = top_append (steps_to f n) (step_at f (suc n)) 0;
      })
      | inr c ↦
          let same : f n ≡ f (suc n) = omega (arith, grows, c) in
          rw (none_here f n c) (record {
            few = omega (arith, before.few, same);
            fit = before.fit;
            rising = before.rising;
            last =
                omega (arith, before.last);
            top = before.top ∙ same;
          })
    ]

pub steps_start : (f : ℕ → ℕ) → IsRising f → 1 ≤ f 1 → (n : ℕ) → StartsAtOne (steps_to f (suc n))
steps_start f rises some zero =
    let c : f 0 < f 1 = omega (arith, rises.begins, some) in
    rw (step_here f 0 c) refl
steps_start f rises some (suc n) = elim (cases_lt (f (suc n)) (f (suc (suc n)))) [
  | inl c ↦ rw (step_here f (suc n) c) (starts_append (steps_to f (suc n)) (step_at f (suc (suc n))) (steps_start f rises some n))
  | inr c ↦ rw (none_here f (suc n) c) (steps_start f rises some n)
]

-- where the value n + 1 is reached at m + 1, and stays until m + k + 1, there is one step
pub steps_once : (f : ℕ → ℕ) → IsRising f → (m k v : ℕ) → f m < v → v ≤ f (m + 1) → f (m + 1 + k) ≤ v →
    steps_to f (m + 1 + k) ≡ steps_to f m ++ (record { time = m + 1; value = v } ∷ [])
steps_once f rises m k v low there high =
    let stays = rises.mono (m + 1) (m + 1 + k) (omega arith) in
    let at : suc m ≡ m + 1 = omega arith in
    let value : f (suc m) ≡ v = omega (arith, ap f at, stays, there, high) in
    steps_flat f rises (m + 1) k (omega (arith, there, high))
    ∙ ap (steps_to f) (sym at)
    ∙ step_here f m (omega (arith, value, low))
    ∙ ap (λ (w : ℕ). steps_to f m ++ (record { time = suc m; value = w } ∷ [])) value
    ∙ ap (λ (w : ℕ). steps_to f m ++ (record { time = w; value = v } ∷ [])) at
