use Rattle.std.specs.Prelude.{ℕ}

-- the longest cycle, in ticks
abbrev pub most_cycle : ℕ
most_cycle = 100000

-- the most slots of a table
abbrev pub most_slots : ℕ
most_slots = 1000

-- the most ticks that a table may supply in a cycle
abbrev pub most_supplied : ℕ
most_supplied = 1000
