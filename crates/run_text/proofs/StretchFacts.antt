use Rattle.std.proofs.Common.{◌≡◌, ℕ, zero, suc, ◌+◌, ◌<◌, ◌≤◌, Bool, true, false, List, [], ◌∷◌, ◌++◌, length, get_or, drop, refl, sym, ◌∙◌, ap}
use Rattle.std.proofs.Common.{subst, inl, inr, add_assoc, append_assoc, eq-eqb, arith, Option, Some}
use Rattle.std.specs.Prelude.{replicate}
use Rattle.std.specs.List.{All}
use Rattle.std.proofs.lemmas.List.{replicate-append-replicate}
use Rattle.std.proofs.lemmas.List.Elements.{All-nil, All-cons}
use Rattle.run_text.specs.Parts.{is_repeated}
use Rattle.run_text.specs.Stretches.{ticks_of, AreApart, HasTick}
use Rattle.std.specs.List.{flat_map}
use Rattle.std.proofs.lemmas.Bool.{cases_Bool, eqb-true}
use Rattle.std.proofs.lemmas.List.{at_drop_more}
use Rattle.run_model.specs.declared.run.Tick.{Tick}
use Rattle.run_model.specs.declared.run.Tick.TheVariants.{Off, Idle, Runs}
use Rattle.run_text.specs.Text.{Stretch, stretch, is_same, with_front, stretches_of, stretch_line}

pub same_self : (x : Tick) → is_same x x ≡ true
same_self Off = refl
same_self Idle = refl
same_self (Runs k) = eq-eqb k k refl

pub same_is : (x y : Tick) → is_same x y ≡ true → x ≡ y
same_is Off Off h = refl
same_is Off Idle h = cc
same_is Off (Runs m) h = cc
same_is Idle Off h = cc
same_is Idle Idle h = refl
same_is Idle (Runs m) h = cc
same_is (Runs k) Off h = cc
same_is (Runs k) Idle h = cc
same_is (Runs k) (Runs m) h = ap Runs (eqb-true k m h)

front_twice : (x : Tick) (n : ℕ) (ss : List Stretch) → with_front x n (with_front x 1 ss) ≡ with_front x (n + 1) ss
front_twice x n [] = rw (same_self x) refl
front_twice x n (s ∷ ss) = elim (cases_Bool (is_same x s.tick)) [
  | inl e ↦ simp (e, same_self x, add_assoc)
  | inr e ↦ simp (e, same_self x)
]

-- an equal tick joins the stretch before it
pub front_same : (x y : Tick) (n : ℕ) (ss : List Stretch) → is_same x y ≡ true → with_front x n (with_front y 1 ss) ≡ with_front x (n + 1) ss
front_same x y n ss h =
    let P : Tick → Type 0 = λ z. with_front x n (with_front z 1 ss) ≡ with_front x (n + 1) ss in
    subst P (same_is x y h) (front_twice x n ss)

-- another tick ends the stretch before it
pub front_other : (x y : Tick) (n : ℕ) (ss : List Stretch) → is_same x y ≡ false → with_front x n (with_front y 1 ss) ≡ stretch x n ∷ with_front y 1 ss
front_other x y n [] h = rw h refl
front_other x y n (s ∷ ss) h = elim (cases_Bool (is_same y s.tick)) [
  | inl e ↦ simp (e, h)
  | inr e ↦ simp (e, h)
]

-- more equal ticks join the stretch before them
front_more : (x : Tick) (m n : ℕ) (ss : List Stretch) → with_front x m (with_front x n ss) ≡ with_front x (m + n) ss
front_more x m n [] = rw (same_self x) refl
front_more x m n (s ∷ ss) = elim (cases_Bool (is_same x s.tick)) [
  | inl e ↦ simp (e, same_self x, add_assoc)
  | inr e ↦ simp (e, same_self x)
]

-- the ticks begin with the same tick as before them
abbrev pub repeats : Option Tick → List Tick → Bool
repeats before [] = false
repeats before (x ∷ xs) = is_repeated before x

front_apart : (x : Tick) (n : ℕ) (rest : List Tick) → repeats (Some x) rest ≡ false → with_front x n (stretches_of rest) ≡ stretch x n ∷ stretches_of rest
front_apart x n [] h = refl
front_apart x n (y ∷ rest) h = front_other x y n (stretches_of rest) h

equal_front : (x : Tick) (n : ℕ) (rest : List Tick) → stretches_of (replicate (suc n) x ++ rest) ≡ with_front x (suc n) (stretches_of rest)
equal_front x zero rest = refl
equal_front x (suc n) rest =
    let sum : 1 + suc n ≡ suc (suc n) = omega arith in
    ap (with_front x 1) (equal_front x n rest) ∙ front_more x 1 (suc n) (stretches_of rest) ∙ ap (λ (k : ℕ). with_front x k (stretches_of rest)) sum

-- equal ticks before another one are a stretch
pub stretches-equal : (x : Tick) (n : ℕ) (rest : List Tick) → 1 ≤ n → repeats (Some x) rest ≡ false →
    stretches_of (replicate n x ++ rest) ≡ stretch x n ∷ stretches_of rest
stretches-equal x zero rest some h = absurd (omega arith)
stretches-equal x (suc n) rest some h = equal_front x n rest ∙ front_apart x (suc n) rest h

-- ticks begin with equal ones, as many as can be
pub record Begins (x : Tick) (xs : List Tick) : Type 0 where
  pub more : ℕ
  pub rest : List Tick
  pub is : x ∷ xs ≡ replicate (suc more) x ++ rest
  pub apart : repeats (Some x) rest ≡ false

pub begins : (x : Tick) (xs : List Tick) → Begins x xs
begins x [] = record { more = 0; rest = []; is = refl; apart = refl }
begins x (y ∷ ys) = elim (cases_Bool (is_same x y)) [
  | inl e ↦
      (let b = begins x ys in
      let same : y ≡ x = sym (same_is x y e) in
      record { more = suc b.more; rest = b.rest; is = ap (λ (l : List Tick). x ∷ l) (ap (λ (z : Tick). z ∷ ys) same ∙ b.is); apart = b.apart })
  | inr e ↦ record { more = 0; rest = y ∷ ys; is = refl; apart = e }
]

-- the next tick joins the stretch
pub stretches_same : (x : Tick) (n : ℕ) (xs : List Tick) (i : ℕ) (d : Tick) → i < length xs → is_same x (get_or xs i d) ≡ true →
    with_front x n (stretches_of (drop i xs)) ≡ with_front x (n + 1) (stretches_of (drop (i + 1) xs))
stretches_same x n xs i d l h =
    at_drop_more (λ ys. with_front x n (stretches_of ys)) xs i d l ∙ front_same x (get_or xs i d) n (stretches_of (drop (i + 1) xs)) h

-- the next tick begins a stretch
pub stretches_other : (x : Tick) (n : ℕ) (xs : List Tick) (i : ℕ) (d : Tick) → i < length xs → is_same x (get_or xs i d) ≡ false →
    with_front x n (stretches_of (drop i xs)) ≡ stretch x n ∷ with_front (get_or xs i d) 1 (stretches_of (drop (i + 1) xs))
stretches_other x n xs i d l h =
    at_drop_more (λ ys. with_front x n (stretches_of ys)) xs i d l ∙ front_other x (get_or xs i d) n (stretches_of (drop (i + 1) xs)) h

-- what is written and what is left, when the next tick joins the stretch
pub text_same : (text : List ℕ) (x : Tick) (n : ℕ) (xs : List Tick) (i : ℕ) (d : Tick) → i < length xs →
    is_same x (get_or xs i d) ≡ true →
    text ++ flat_map stretch_line (with_front x n (stretches_of (drop i xs))) ≡ text ++ flat_map stretch_line
    (with_front x (n + 1) (stretches_of (drop (i + 1) xs)))
text_same text x n xs i d l h = ap (λ ss. text ++ flat_map stretch_line ss) (stretches_same x n xs i d l h)

-- the same, when the next tick ends the stretch
pub text_other : (text : List ℕ) (x : Tick) (n : ℕ) (xs : List Tick) (i : ℕ) (d : Tick) → i < length xs →
    is_same x (get_or xs i d) ≡ false →
    text ++ flat_map stretch_line (with_front x n (stretches_of (drop i xs))) ≡
    (text ++ stretch_line (stretch x n)) ++ flat_map stretch_line (with_front (get_or xs i d) 1 (stretches_of (drop (i + 1) xs)))
text_other text x n xs i d l h =
    ap (λ ss. text ++ flat_map stretch_line ss) (stretches_other x n xs i d l h) ∙
    sym (append_assoc text (stretch_line (stretch x n)) (flat_map stretch_line (with_front (get_or xs i d) 1 (stretches_of (drop (i + 1) xs)))))

ticks_of-front : (x : Tick) (n : ℕ) (ss : List Stretch) → ticks_of (with_front x n ss) ≡ replicate n x ++ ticks_of ss
ticks_of-front x n [] = refl
ticks_of-front x n (s ∷ ss) = elim (cases_Bool (is_same x s.tick)) [
  | inl e ↦
      (let rest = ticks_of ss in
      let same : x ≡ s.tick = same_is x s.tick e in
      rw e (ap (λ (l : List Tick). l ++ rest) (sym (replicate-append-replicate n s.count x)) ∙
      append_assoc (replicate n x) (replicate s.count x) rest ∙ ap (λ (y : Tick). replicate n x ++ (replicate s.count y ++ rest)) same))
  | inr e ↦ rw e refl
]

-- the stretches of ticks stand for these ticks
pub ticks_of-stretches_of : (ticks : List Tick) → ticks_of (stretches_of ticks) ≡ ticks
ticks_of-stretches_of [] = refl
ticks_of-stretches_of (x ∷ ticks) = ticks_of-front x 1 (stretches_of ticks) ∙ ap (λ (l : List Tick). x ∷ l) (ticks_of-stretches_of ticks)

-- the stretch at the front is of another tick
abbrev StartsApart : Tick → List Stretch → Type 0
StartsApart x [] = Unit {0}
StartsApart x (s ∷ ss) = is_same x s.tick ≡ false

apart_after : (x : Tick) (n : ℕ) (ss : List Stretch) → StartsApart x ss → AreApart ss → AreApart (stretch x n ∷ ss)
apart_after x n [] h all = tt
apart_after x n (s ∷ ss) h all = (h, all)

apart_more : (s : Stretch) (ss : List Stretch) → AreApart (s ∷ ss) → AreApart ss × StartsApart s.tick ss
apart_more s [] h = (tt, tt)
apart_more s (r ∷ ss) h = (h.1, h.0)

apart-front : (x : Tick) (n : ℕ) (ss : List Stretch) → AreApart ss → AreApart (with_front x n ss)
apart-front x n [] all = tt
apart-front x n (s ∷ ss) all = elim (cases_Bool (is_same x s.tick)) [
  | inl e ↦
      (let rest = apart_more s ss all in
      let same : s.tick ≡ x = sym (same_is x s.tick e) in
      rw e (apart_after x (n + s.count) ss (subst (λ (y : Tick). StartsApart y ss) same rest.1) rest.0))
  | inr e ↦ rw e (e, all)
]

-- no two neighbours among the stretches of ticks are of the same tick
pub apart-stretches_of : (ticks : List Tick) → AreApart (stretches_of ticks)
apart-stretches_of [] = tt
apart-stretches_of (x ∷ ticks) = apart-front x 1 (stretches_of ticks) (apart-stretches_of ticks)

some-front : (x : Tick) (n : ℕ) (ss : List Stretch) → 1 ≤ n → All HasTick ss → All HasTick (with_front x n ss)
some-front x n [] some all = All-cons HasTick (stretch x n) [] some all
some-front x n (s ∷ ss) some all = elim (cases_Bool (is_same x s.tick)) [
  | inl e ↦
      (let rest : All HasTick ss = λ k d less. all (suc k) d (omega arith) in
      let more : 1 ≤ n + s.count = omega arith in
      rw e (All-cons HasTick (stretch x (n + s.count)) ss more rest))
  | inr e ↦ rw e (All-cons HasTick (stretch x n) (s ∷ ss) some all)
]

-- each stretch of ticks has a tick
pub some-stretches_of : (ticks : List Tick) → All HasTick (stretches_of ticks)
some-stretches_of [] = All-nil HasTick
some-stretches_of (x ∷ ticks) = some-front x 1 (stretches_of ticks) (omega arith) (some-stretches_of ticks)
