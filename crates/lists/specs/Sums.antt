use Rattle.std.specs.Prelude.{ℕ, zero, suc, ◌+◌, min, max}

-- f 0 + .. + f (n - 1)
abbrev pub sum_below : (ℕ → ℕ) → ℕ → ℕ
sum_below f zero = 0
sum_below f (suc n) = sum_below f n + f n

-- the greatest of f 0, .., f (n - 1), and 0 where there is none
abbrev pub max_below : (ℕ → ℕ) → ℕ → ℕ
max_below f zero = 0
max_below f (suc n) = max (max_below f n) (f n)

-- the least of f 0, .., f n
abbrev pub min_to : (ℕ → ℕ) → ℕ → ℕ
min_to f zero = f 0
min_to f (suc n) = min (min_to f n) (f (suc n))
