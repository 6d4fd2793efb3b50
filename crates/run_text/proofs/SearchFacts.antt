-- Searches through numbers and lists of numbers.
use Rattle.std.proofs.Common.{◌≡◌, ℕ, zero, suc, ◌<◌, ◌≤◌, ◌⊎◌, List, [], ◌∷◌, ◌++◌, length, refl, inl, inr, arith}
use Rattle.std.specs.List.{AllByRecursion}
use Rattle.std.proofs.lemmas.Bool.{cases_eq}
use Rattle.lists.proofs.SearchFacts.{find_below}

-- a decided fact holds of a number below n, or of none
pub some_below : (P : ℕ → Type 0) → ((k : ℕ) → P k ⊎ (P k → ⊥)) → (n : ℕ) → ((k : ℕ) × (k < n) × P k) ⊎ ((k : ℕ) → k < n → P k → ⊥)
some_below P decide n = elim (find_below (λ k. P k → ⊥) P (λ k. elim (decide k) [ inl p ↦ inr p | inr out ↦ inl out ]) n) [
  | inl none ↦ inr none
  | inr some ↦ inl some
]

-- the list is no longer than n, and none of its numbers is above the top
pub record IsSmallList (top n : ℕ) (xs : List ℕ) : Type 0 where
  pub few : length xs ≤ n
  pub all : AllByRecursion (λ x. x ≤ top) xs

empty_only : (top : ℕ) (P : List ℕ → Type 0) → (P [] → ⊥) → (xs : List ℕ) → IsSmallList top 0 xs → P xs → ⊥
empty_only top P out [] small p = out p
empty_only top P out (x ∷ xs) small p = absurd (omega (arith, small.few))

list_behind : (top n : ℕ) (P : List ℕ → Type 0) (x : ℕ) →
    ((xs : List ℕ) × IsSmallList top n xs × P (x ∷ xs)) ⊎ ((xs : List ℕ) → IsSmallList top n xs → P (x ∷ xs) → ⊥)
    → ((xs : List ℕ) × IsSmallList top n xs × P (x ∷ xs)) ⊎ (((xs : List ℕ) × IsSmallList top n xs × P (x ∷ xs)) → ⊥)
list_behind top n P x (inl some) = inl some
list_behind top n P x (inr none) = inr (λ s. none s.0 s.1 s.2)

longer_none : (top n : ℕ) (P : List ℕ → Type 0) → (P [] → ⊥) →
    ((x : ℕ) → x < suc top → ((xs : List ℕ) × IsSmallList top n xs × P (x ∷ xs)) → ⊥) → (xs : List ℕ) → IsSmallList top (suc n) xs → P xs → ⊥
longer_none top n P out none [] small p = out p
longer_none top n P out none (x ∷ xs) small p = none x (omega (arith, small.all.0)) (xs, record { few = omega (arith, small.few); all = small.all.1 }, p)

-- a decided fact holds of such a list, or of none
pub some_list : (top n : ℕ) (P : List ℕ → Type 0) → ((xs : List ℕ) → P xs ⊎ (P xs → ⊥)) →
    ((xs : List ℕ) × IsSmallList top n xs × P xs) ⊎ ((xs : List ℕ) → IsSmallList top n xs → P xs → ⊥)
some_list top zero P decide = elim (decide []) [
  | inl p ↦ inl ([], record { few = omega arith; all = tt }, p)
  | inr out ↦ inr (empty_only top P out)
]
some_list top (suc n) P decide = elim (decide []) [
  | inl p ↦ inl ([], record { few = omega arith; all = tt }, p)
  | inr out ↦ elim (some_below (λ x. (xs : List ℕ) × IsSmallList top n xs × P (x ∷ xs))
      (λ x. list_behind top n P x (some_list top n (λ xs. P (x ∷ xs)) (λ xs. decide (x ∷ xs)))) (suc top)) [
        | inl some ↦ (let rest = some.2 in inl (some.0 ∷ rest.0, record { few = omega (arith, rest.1.few); all = (omega (arith, some.1), rest.1.all) }, rest.2))
        | inr none ↦ inr (longer_none top n P out none)
      ]
]

-- the list begins with w, or does not
pub begins_or_not : (w l : List ℕ) → ((u : List ℕ) × (l ≡ w ++ u)) ⊎ ((u : List ℕ) → l ≡ w ++ u → ⊥)
begins_or_not [] l = inl (l, refl)
begins_or_not (x ∷ w) [] = inr (λ u e. cc)
begins_or_not (x ∷ w) (y ∷ l) = elim (cases_eq y x) [
  | inl same ↦ elim (begins_or_not w l) [
    | inl b ↦ inl (b.0, (let rest : l ≡ w ++ b.0 = b.1 in cc))
    | inr out ↦ inr (λ u e. out u (let rest : l ≡ w ++ u = cc in rest))
  ]
  | inr other ↦ inr (λ u e. other (let same : y ≡ x = cc in same))
]
