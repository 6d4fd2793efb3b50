use Rattle.std.specs.Prelude.{ℕ, zero, suc, ◌+◌, ◌-◌, Bool, List, [], ◌∷◌, ◌++◌, get_or, if◌then◌else◌}
use Rattle.supply_table.specs.declared.table.Slot.{Slot}

-- from, from + 1, .., count numbers
abbrev pub numbers_from : ℕ → ℕ → List ℕ
numbers_from from zero = []
numbers_from from (suc n) = numbers_from from n ++ ((from + n) ∷ [])

-- the ticks of a slot of the cycle that begins at tick begin
abbrev pub slot_ticks : ℕ → Slot → List ℕ
slot_ticks begin s = numbers_from (begin + s.start) s.length

-- the numbers below n that pass a test, in order
abbrev pub passing_below : (ℕ → Bool) → ℕ → List ℕ
passing_below test zero = []
passing_below test (suc n) = if test n then passing_below test n ++ (n ∷ []) else passing_below test n

-- how far the n-th tick after the tick with number i is away
abbrev pub wait_of : List ℕ → ℕ → ℕ → ℕ
wait_of ticks n i = get_or ticks (i + n) 0 - get_or ticks i 0
