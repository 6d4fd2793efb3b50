-- How many arrivals of a list lie in a window.
use Rattle.std.proofs.Common.{◌≡◌, ℕ, zero, suc, ◌+◌, ◌-◌, ◌<◌, ◌≤◌, ◌⊎◌, ◌&&◌, Bool, true, false, cond, List, [], ◌∷◌, ◌++◌, length, get_or, take}
use Rattle.std.proofs.Common.{count_by, refl, ap, inl, inr, arith, leb, ltb}
use Rattle.std.proofs.lemmas.Bool.{cases_lt}
use Rattle.std.proofs.lemmas.Bool.Decides.{nat_tests}
use Rattle.std.proofs.lemmas.List.{take_all, take-take}
use Rattle.std.proofs.lemmas.List.Sums.{sum_by-take-le, sum_by_push}
use Rattle.std.proofs.lemmas.List.Sorted.{sum_by-IsPermutation}
use Rattle.std.specs.List.Sorted.{IsPermutation}
use Rattle.lists.proofs.SumFacts.{at_most_one, count_more}
use Rattle.windows.specs.Arrivals.{arrived_in}

zero_count : (p : ℕ → Bool) (xs : List ℕ) → count_by p (take 0 xs) ≡ 0
zero_count p xs = refl

-- all from i on pass
at_least : (p : ℕ → Bool) (xs : List ℕ) (i n : ℕ) → n ≤ length xs →
    ((k : ℕ) → i ≤ k → k < n → p (get_or xs k 0) ≡ true) → n - i ≤ count_by p (take n xs)
at_least p xs i zero h e = omega arith
at_least p xs i (suc n) h e = elim (cases_lt n i) [
  | inl c ↦ omega arith
  | inr c ↦ omega (
    arith,
    at_least p xs i n (omega arith) (λ k a b. e k a (omega arith)),
    count_more p xs 0 n (omega arith),
    ap (λ (b : Bool). cond {A = ℕ} b 1 0) (e n c (omega arith)),
  )
]

-- none before i passes
at_most : (p : ℕ → Bool) (xs : List ℕ) (i n : ℕ) → n ≤ length xs →
    ((k : ℕ) → k < i → k < n → p (get_or xs k 0) ≡ false) → count_by p (take n xs) ≤ n - i
at_most p xs i zero h e = omega (arith, zero_count p xs)
at_most p xs i (suc n) h e = elim (cases_lt n i) [
  | inl c ↦ omega (
    arith,
    at_most p xs i n (omega arith) (λ k a b. e k a (omega arith)),
    count_more p xs 0 n (omega arith),
    ap (λ (b : Bool). cond {A = ℕ} b 1 0) (e n c (omega arith)),
  )
  | inr c ↦ omega (arith, at_most p xs i n (omega arith) (λ k a b. e k a (omega arith)), count_more p xs 0 n (omega arith), at_most_one (p (get_or xs n 0)))
]

take_le : (p : ℕ → Bool) (xs : List ℕ) (n m : ℕ) → n ≤ m → count_by p (take n xs) ≤ count_by p (take m xs)
take_le p xs n m h = omega (arith, ap (λ (l : List ℕ). count_by p l) (take-take n m xs h), sum_by-take-le (λ x. cond {A = ℕ} (p x) 1 0) (take m xs) n)

-- none from m on passes
none_after : (p : ℕ → Bool) (xs : List ℕ) (m n : ℕ) → n ≤ length xs →
    ((k : ℕ) → m ≤ k → k < n → p (get_or xs k 0) ≡ false) → count_by p (take n xs) ≤ count_by p (take m xs)
none_after p xs m zero h e = omega (arith, zero_count p xs)
none_after p xs m (suc n) h e = elim (cases_lt n m) [
  | inr c ↦ omega (
    arith,
    none_after p xs m n (omega arith) (λ k a b. e k a (omega arith)),
    count_more p xs 0 n (omega arith),
    ap (λ (b : Bool). cond {A = ℕ} b 1 0) (e n c (omega arith)),
  )
  | inl c ↦ take_le p xs (suc n) m (omega arith)
]

in_two : (b c d : Bool) → (b ≡ true → (c ≡ true) ⊎ (d ≡ true)) → cond {A = ℕ} b 1 0 ≤ cond {A = ℕ} c 1 0 + cond {A = ℕ} d 1 0
in_two true true d h = omega (arith, at_most_one d)
in_two true false true h = omega arith
in_two true false false h = elim (h refl) [ inl e ↦ absurd (cc) | inr e ↦ absurd (cc) ]
in_two false c d h = omega arith

two_parts : (p q r : ℕ → Bool) (xs : List ℕ) (n : ℕ) → n ≤ length xs →
    ((x : ℕ) → p x ≡ true → (q x ≡ true) ⊎ (r x ≡ true)) →
    count_by p (take n xs) ≤ count_by q (take n xs) + count_by r (take n xs)
two_parts p q r xs zero h e = omega (arith, zero_count p xs)
two_parts p q r xs (suc n) h e =
    omega (
      arith,
      two_parts p q r xs n (omega arith) e,
      count_more p xs 0 n (omega arith),
      count_more q xs 0 n (omega arith),
      count_more r xs 0 n (omega arith),
      in_two (p (get_or xs n 0)) (q (get_or xs n 0)) (r (get_or xs n 0)) (e (get_or xs n 0)),
    )

whole : (p : ℕ → Bool) (xs : List ℕ) → count_by p (take (length xs) xs) ≡ count_by p xs
whole p xs = ap (λ (l : List ℕ). count_by p l) (take_all (length xs) xs (omega arith))

-- all arrivals from number i on are in the window
pub arrived_least : (xs : List ℕ) (s u i : ℕ) → ((k : ℕ) → i ≤ k → k < length xs → s ≤ get_or xs k 0) →
    ((k : ℕ) → k < length xs → get_or xs k 0 < u) → length xs - i ≤ arrived_in xs s u
unfolding arrived_in
arrived_least xs s u i low high =
    omega (
      arith,
      whole (λ a. leb s a && ltb a u) xs,
      at_least (λ a. leb s a && ltb a u) xs i (length xs) (omega arith)
          (λ k a b. (let l = low k a b in let h = high k b in grind (arith, nat_tests))),
    )

-- no arrival before number i is in the window
pub arrived_most : (xs : List ℕ) (s u i : ℕ) → ((k : ℕ) → k < i → k < length xs → get_or xs k 0 < s) →
    arrived_in xs s u ≤ length xs - i
unfolding arrived_in
arrived_most xs s u i low =
    omega (
      arith,
      whole (λ a. leb s a && ltb a u) xs,
      at_most (λ a. leb s a && ltb a u) xs i (length xs) (omega arith)
          (λ k a b. (let l = low k a b in grind (arith, nat_tests))),
    )

-- a window in two parts
pub arrived_split : (xs : List ℕ) (s m u : ℕ) → arrived_in xs s u ≤ arrived_in xs s m + arrived_in xs m u
unfolding arrived_in
arrived_split xs s m u =
    omega (
      arith,
      whole (λ a. leb s a && ltb a u) xs,
      whole (λ a. leb s a && ltb a m) xs,
      whole (λ a. leb m a && ltb a u) xs,
      two_parts (λ a. leb s a && ltb a u) (λ a. leb s a && ltb a m) (λ a. leb m a && ltb a u) xs (length xs) (omega arith)
          (λ x e. elim (cases_lt x m) [ inl c ↦ inl (grind (arith, nat_tests)) | inr c ↦ inr (grind (arith, nat_tests)) ]),
    )

-- the arrivals from number i to before number m are in the window
pub arrived_range : (xs : List ℕ) (s u i m : ℕ) → m ≤ length xs → ((k : ℕ) → i ≤ k → k < m → s ≤ get_or xs k 0) →
    ((k : ℕ) → i ≤ k → k < m → get_or xs k 0 < u) → m - i ≤ arrived_in xs s u
unfolding arrived_in
arrived_range xs s u i m h low high =
    omega (
      arith,
      at_least (λ a. leb s a && ltb a u) xs i m h (λ k a b. (let l = low k a b in let g = high k a b in grind (arith, nat_tests))),
      sum_by-take-le (λ x. cond {A = ℕ} (leb s x && ltb x u) 1 0) xs m,
    )

-- no arrival before number i, or from number m on, is in the window
pub arrived_between : (xs : List ℕ) (s u i m : ℕ) → m ≤ length xs →
    ((k : ℕ) → k < i → k < length xs → get_or xs k 0 < s) → ((k : ℕ) → m ≤ k → k < length xs → u ≤ get_or xs k 0) →
    arrived_in xs s u ≤ m - i
unfolding arrived_in
arrived_between xs s u i m h low high =
    omega (
      arith,
      whole (λ a. leb s a && ltb a u) xs,
      none_after (λ a. leb s a && ltb a u) xs m (length xs) (omega arith) (λ k a b. (let g = high k a b in grind (arith, nat_tests))),
      at_most (λ a. leb s a && ltb a u) xs i m h (λ k a b. (let l = low k a (omega arith) in grind (arith, nat_tests))),
    )

-- the order of the arrivals does not matter
pub arrived_permuted : (xs ys : List ℕ) (s u : ℕ) → IsPermutation xs ys → arrived_in ys s u ≡ arrived_in xs s u
unfolding arrived_in
arrived_permuted xs ys s u same = sum_by-IsPermutation (λ x. cond {A = ℕ} (leb s x && ltb x u) 1 0) xs ys same

-- the list with one arrival more
pub arrived_push : (xs : List ℕ) (t s u : ℕ) →
    arrived_in (xs ++ t ∷ []) s u ≡ arrived_in xs s u + cond (leb s t && ltb t u) 1 0
unfolding arrived_in
arrived_push xs t s u = sum_by_push (λ a. cond {A = ℕ} (leb s a && ltb a u) 1 0) xs t
