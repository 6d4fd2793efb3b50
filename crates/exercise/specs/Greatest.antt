use Rattle.std.specs.Prelude.{ℕ, List, [], ◌∷◌, max}

-- the greatest number of a list's elements, and 0 where there is none
abbrev pub greatest_by : {X : Type 0} → (X → ℕ) → List X → ℕ
greatest_by f [] = 0
greatest_by f (x ∷ xs) = max (f x) (greatest_by f xs)
