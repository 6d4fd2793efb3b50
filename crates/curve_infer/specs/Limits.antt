use Rattle.std.specs.Prelude.{ℕ}
use Rattle.lists.specs.Limits.{greatest_number}

-- the most arrivals of a trace
abbrev pub most_arrivals : ℕ
most_arrivals = 10000

-- the latest arrival of a trace, in ticks
abbrev pub latest : ℕ
latest = greatest_number
