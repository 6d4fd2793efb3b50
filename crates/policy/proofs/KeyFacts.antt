use Rattle.std.proofs.Common.{◌≡◌, ◌≤◌, true, arith}
use Rattle.std.specs.Prelude.{ℤ, pos, negsuc, ◌≤ℤ◌}
use Rattle.std.proofs.lemmas.Int.{ints}
use Rattle.policy.specs.declared.keys.Key.{Key}
use Rattle.policy.specs.Keys.{key_le, not_below_zero}

-- a key is at least as urgent as itself
pub key_le_refl : (k : Key) → key_le k k ≡ true
key_le_refl k = grind (arith, ints)

-- urgency is transitive
pub key_le_trans : (a b c : Key) → key_le a b ≡ true → key_le b c ≡ true → key_le a c ≡ true
key_le_trans a b c h k = grind (arith, ints)

-- a greater cap is no smaller where it is not below 0
pub floor_mono : (c d : ℤ) → c ≤ℤ d → not_below_zero c ≤ not_below_zero d
floor_mono (pos a) (pos b) h = omega (arith, ints)
floor_mono (pos a) (negsuc b) h = absurd (omega (arith, ints))
floor_mono (negsuc a) d h = omega arith
