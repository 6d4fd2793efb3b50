-- proofs on lists of segments, for those of the laws; nothing here is to be believed
use Rattle.std.proofs.Common.{◌≡◌, ℕ, ◌+◌, ◌-◌, ◌<◌, ◌≤◌, ◌⊎◌, ◌==◌, ◌&&◌, ◌||◌, Bool, true, List, [], ◌∷◌, length, refl, ◌∙◌, ap, inl, inr, arith, leb, sum}
use Rattle.std.specs.List.{list_all}
use Rattle.std.proofs.lemmas.Bool.{cases_lt, leb-true, eqb-true, and_from, and_parts, or_cases, le-leb}
use Rattle.std.proofs.lemmas.List.Sums.{sum_by-cons}
use Rattle.lists.specs.Limits.{greatest_number}
use Rattle.task_sheet.specs.Rules.{is_in_range, last_number}
use Rattle.preemption.specs.Cuts.{is_prefix_sum, greatest, each_within, are_lengths_within}

pub sum_more : (x : ℕ) (xs : List ℕ) → sum (x ∷ xs) ≡ x + sum xs
sum_more x xs = sum_by-cons (λ (n : ℕ). n) x xs

pub or_left : (b c : Bool) → b ≡ true → (b || c) ≡ true
or_left b c h = grind arith

pub or_right : (b c : Bool) → c ≡ true → (b || c) ≡ true
or_right b c h = grind arith

pub prefix_zero : (xs : List ℕ) → is_prefix_sum xs 0 ≡ true
prefix_zero [] = refl
prefix_zero (x ∷ xs) = refl

-- a cut further on
prefix_on : (x r : ℕ) (xs : List ℕ) → is_prefix_sum xs r ≡ true → is_prefix_sum (x ∷ xs) (x + r) ≡ true
prefix_on x r xs h =
    let e : x + r - x ≡ r = omega arith in
    or_right (x + r == 0) _ (and_from (leb x (x + r)) (is_prefix_sum xs (x + r - x)) (le-leb x (x + r) (omega arith)) (ap (is_prefix_sum xs) e ∙ h))

-- a sum of some first numbers that is at least 1 more, and at most the greatest more
pub record HasNextSum (xs : List ℕ) (s most : ℕ) : Type 0 where
  pub at : ℕ
  pub later : s < at
  pub near : at ≤ s + most
  pub cut : is_prefix_sum xs at ≡ true

next_on : (x : ℕ) (xs : List ℕ) (r s most : ℕ) → r + x ≡ s → HasNextSum xs r most → HasNextSum (x ∷ xs) s most
next_on x xs r s most e n = record {
  at = x + n.at;
  later = omega (arith, n.later);
  near = omega (arith, n.near);
  cut = prefix_on x n.at xs n.cut;
}

first_next : (x : ℕ) (xs : List ℕ) (s most : ℕ) → s ≡ 0 → 0 < x → x ≤ most → HasNextSum (x ∷ xs) s most
first_next x xs s most z p g = record {
  at = x + 0;
  later = omega arith;
  near = omega arith;
  cut = prefix_on x 0 xs (prefix_zero xs);
}

-- the next cut is at most a segment away
pub next_sum : (xs : List ℕ) (s most : ℕ) → is_prefix_sum xs s ≡ true → s < sum xs → greatest xs ≤ most → HasNextSum xs s most
next_sum [] s most h l g = absurd (omega arith)
next_sum (x ∷ xs) s most h l g = elim (or_cases (s == 0) (leb x s && is_prefix_sum xs (s - x)) h) [
  | inl z ↦
      let e = eqb-true s 0 z in
      elim (cases_lt 0 x) [
        | inl p ↦ first_next x xs s most e p (omega (arith, g))
        | inr p ↦ next_on x xs 0 s most (omega (arith, e)) (next_sum xs 0 most (prefix_zero xs) (omega (arith, l, e, sum_more x xs)) (omega (arith, g)))
      ]
  | inr k ↦
      let p = and_parts (leb x s) (is_prefix_sum xs (s - x)) k in
      let b = leb-true x s p.0 in
      next_on x xs (s - x) s most (omega (arith, b)) (next_sum xs (s - x) most p.1 (omega (arith, l, b, sum_more x xs)) (omega (arith, g)))
]

pub last_within : (before : ℕ) (ys : List ℕ) → last_number before ys ≤ before + sum ys
last_within before [] = omega arith
last_within before (y ∷ ys) = omega (arith, last_within y ys, sum_more y ys)

-- a cut is the end, or leaves at least the last segment
pub prefix_leaves_last : (before : ℕ) (xs ys : List ℕ) (s : ℕ) → each_within xs ys ≡ true → is_prefix_sum xs s ≡ true →
    (s ≡ sum xs) ⊎ (s + last_number before ys ≤ sum ys)
prefix_leaves_last before [] [] s w h = inl (eqb-true s 0 h)
prefix_leaves_last before [] (y ∷ ys) s w h = absurd (cc)
prefix_leaves_last before (x ∷ xs) [] s w h = absurd (cc)
prefix_leaves_last before (x ∷ xs) (y ∷ ys) s w h =
    let q = and_parts (leb x y) (each_within xs ys) w in
    let within = leb-true x y q.0 in
    elim (or_cases (s == 0) (leb x s && is_prefix_sum xs (s - x)) h) [
      | inl z ↦ inr (omega (arith, eqb-true s 0 z, last_within y ys, sum_more y ys))
      | inr k ↦
          let p = and_parts (leb x s) (is_prefix_sum xs (s - x)) k in
          let b = leb-true x s p.0 in
          elim (prefix_leaves_last y xs ys (s - x) q.1 p.1) [
            | inl e ↦ inl (omega (arith, e, b, sum_more x xs))
            | inr e ↦ inr (omega (arith, e, b, within, sum_more y ys))
          ]
    ]

pub greatest_within : (xs ys : List ℕ) → each_within xs ys ≡ true → greatest xs ≤ greatest ys
greatest_within [] ys w = omega arith
greatest_within (x ∷ xs) [] w = absurd (cc)
greatest_within (x ∷ xs) (y ∷ ys) w =
    let q = and_parts (leb x y) (each_within xs ys) w in
    omega (arith, leb-true x y q.0, greatest_within xs ys q.1)

pub greatest_all : (bound : ℕ) (xs : List ℕ) → are_lengths_within bound xs ≡ true → greatest xs ≤ bound
greatest_all bound [] w = omega arith
greatest_all bound (x ∷ xs) w =
    let q = and_parts (leb 1 x && leb x bound) (are_lengths_within bound xs) w in
    let p = and_parts (leb 1 x) (leb x bound) q.0 in
    omega (arith, leb-true x bound p.1, greatest_all bound xs q.1)

pub greatest_sum : (xs : List ℕ) → greatest xs ≤ sum xs
greatest_sum [] = omega arith
greatest_sum (x ∷ xs) = omega (arith, greatest_sum xs, sum_more x xs)

pub greatest_some : (xs : List ℕ) → 1 ≤ sum xs → 1 ≤ greatest xs
greatest_some [] h = absurd (omega arith)
greatest_some (x ∷ xs) h = elim (cases_lt 0 x) [
  | inl p ↦ omega (arith, p)
  | inr z ↦ omega (arith, greatest_some xs (omega (arith, sum_more x xs)))
]

last_positive : (x : ℕ) (xs : List ℕ) → 1 ≤ x → list_all is_in_range xs ≡ true → 1 ≤ last_number x xs
last_positive x [] h w = h
last_positive x (y ∷ ys) h w =
    let q = and_parts (is_in_range y) (list_all is_in_range ys) w in
    let p = and_parts (leb 1 y) (leb y greatest_number) q.0 in
    last_positive y ys (leb-true 1 y p.0) q.1

pub last_some : (xs : List ℕ) → list_all is_in_range xs ≡ true → 1 ≤ length xs → 1 ≤ last_number 0 xs
last_some [] w h = absurd (omega arith)
last_some (x ∷ xs) w h =
    let q = and_parts (is_in_range x) (list_all is_in_range xs) w in
    let p = and_parts (leb 1 x) (leb x greatest_number) q.0 in
    last_positive x xs (leb-true 1 x p.0) q.1
