use Rattle.std.specs.Prelude.{ℕ, ℤ, pos, negsuc, Bool, ◌&&◌, ◌||◌, int_lt, int_le}
use Rattle.std.specs.Ordering.{int_eq}
use Rattle.policy.specs.declared.keys.Key.{Key}

-- at least as urgent
abbrev pub key_le : Key → Key → Bool
key_le a b = int_lt a.high b.high || (int_eq a.high b.high && int_le a.low b.low)

-- the greater of a cap's number and 0
abbrev pub not_below_zero : ℤ → ℕ
not_below_zero (pos n) = n
not_below_zero (negsuc n) = 0
