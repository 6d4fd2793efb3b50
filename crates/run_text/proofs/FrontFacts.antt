-- Fronts of one list, and the newlines in bytes.
use Rattle.std.proofs.Common.{◌≡◌, ℕ, suc, ◌+◌, ◌⊎◌, ◌==◌, cond, List, [], ◌∷◌, ◌++◌, refl, ◌∙◌, arith, inl, inr}
use Rattle.std.proofs.lemmas.List.Sums.{sum_by-cons}
use Rattle.poet_io.specs.Texts.{newlines}
use Rattle.run_text.proofs.WordFacts.{Lacks}

-- one of two fronts is a front of the other
pub fronts : (a s b t : List ℕ) → a ++ s ≡ b ++ t → ((u : List ℕ) × (a ≡ b ++ u)) ⊎ ((u : List ℕ) × (b ≡ a ++ u) × (s ≡ u ++ t))
fronts a s [] t e = inl (a, refl)
fronts [] s (y ∷ b) t e = inr (y ∷ b, refl, e)
fronts (x ∷ a) s (y ∷ b) t e =
    let heads : x ≡ y = cc in
    let tails : a ++ s ≡ b ++ t = cc in
    elim (fronts a s b t tails) [
      | inl f ↦ inl (f.0, (let rest : a ≡ b ++ f.0 = f.1 in cc))
      | inr f ↦ inr (f.0, (let rest : b ≡ a ++ f.0 = f.1 in cc), f.2)
    ]

pub newlines-next : (x : ℕ) (xs : List ℕ) → newlines (x ∷ xs) ≡ cond (x == 10) 1 0 + newlines xs
newlines-next x xs = sum_by-cons (λ (b : ℕ). cond {A = ℕ} (b == 10) 1 0) x xs

pub newlines-none : (xs : List ℕ) → Lacks 10 xs → newlines xs ≡ 0
newlines-none [] h = refl
newlines-none (x ∷ xs) h = newlines-next x xs ∙ rw (h.0) (omega (arith, newlines-none xs h.1))

-- a line and its newline in front count as one
pub newlines-line : (line rest : List ℕ) → Lacks 10 line → newlines (line ++ 10 ∷ rest) ≡ suc (newlines rest)
newlines-line [] rest h = newlines-next 10 rest ∙ omega arith
newlines-line (x ∷ line) rest h = newlines-next x (line ++ 10 ∷ rest) ∙ rw (h.0) (omega (arith, newlines-line line rest h.1))
