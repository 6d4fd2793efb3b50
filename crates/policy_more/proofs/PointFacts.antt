-- Sums of points stay within 64 bits.
use Rattle.std.proofs.Common.{◌≡◌, ℕ, ℤ, ◌≤◌, pos, neg_ℤ, ◌+ℤ◌, ◌≤ℤ◌, int_lt, to_z, of_z, w64, ap, ◌∙◌, arith}
use Rattle.std.proofs.lemmas.Int.{ints}
use Rattle.lists.specs.Limits.{greatest_number}

kept_sum : (q : ℤ) (n : ℕ) → neg_ℤ (pos greatest_number) ≤ℤ q → q ≤ℤ pos greatest_number → n ≤ greatest_number →
    to_z w64 (of_z w64 (to_z w64 (of_z w64 q) +ℤ to_z w64 n)) ≡ q +ℤ pos n
kept_sum q n low high few = omega (arith, ints)

same_order : (x y u v : ℤ) → x ≡ u → y ≡ v → int_lt x y ≡ int_lt u v
same_order x y u v e f = ap (λ (w : ℤ). int_lt w y) e ∙ ap (λ (w : ℤ). int_lt u w) f

-- two points compare as they should, each with a number added
pub kept_order : (p q : ℤ) (m n : ℕ) → neg_ℤ (pos greatest_number) ≤ℤ p → p ≤ℤ pos greatest_number →
    neg_ℤ (pos greatest_number) ≤ℤ q → q ≤ℤ pos greatest_number → m ≤ greatest_number → n ≤ greatest_number →
    int_lt (to_z w64 (of_z w64 (to_z w64 (of_z w64 p) +ℤ to_z w64 m))) (to_z w64 (of_z w64 (to_z w64 (of_z w64 q) +ℤ to_z w64 n)))
    ≡ int_lt (p +ℤ pos m) (q +ℤ pos n)
kept_order p q m n p_low p_high q_low q_high m_few n_few = same_order _ _ _ _ (kept_sum p m p_low p_high m_few) (kept_sum q n q_low q_high n_few)
