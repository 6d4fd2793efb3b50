use Rattle.std.specs.Prelude.{ℕ, ◌+◌, ◌-◌, List, get_or}

-- how far the time with number i and the one so many places behind it are apart
abbrev pub gap_of : List ℕ → ℕ → ℕ → ℕ
gap_of times behind i = get_or times (i + behind) 0 - get_or times i 0
