use Rattle.std.specs.Prelude.{ℕ, zero, suc, ◌+◌, ◌-◌, ◌%◌, ◌&&◌, Bool, cond, min, List, [], ◌∷◌, ◌++◌, nat_le, nat_lt, if◌then◌else◌}
use Rattle.std.specs.List.{list_any}
use Rattle.lists.specs.Sums.{sum_below, min_to}
use Rattle.supply_table.specs.declared.table.Slot.{Slot}
use Rattle.supply_table.specs.TableParts.{TableParts}

-- tick t of the cycle lies in the slot
abbrev pub is_in_slot : ℕ → Slot → Bool
is_in_slot t s = nat_le s.start t && nat_lt t (s.start + s.length)

-- the table supplies tick t, where a cycle begins at tick 0
unfoldable pub is_supplied : TableParts → ℕ → Bool
is_supplied table t = list_any (is_in_slot (t % table.cycle)) table.slots

-- how many of the numbers p, .., p + d - 1 pass a test
unfoldable pub count_in : (ℕ → Bool) → ℕ → ℕ → ℕ
count_in test p d = sum_below (λ k. cond (test (p + k)) 1 0) d

-- the ticks of [p, p + d) that the table supplies
abbrev pub on_of : TableParts → ℕ → ℕ → ℕ
on_of table p d = count_in (is_supplied table) p d

-- the ticks that the table supplies in every window of d ticks, whatever tick of the cycle it begins with
unfoldable pub floor_of : TableParts → ℕ → ℕ
floor_of table d = min_to (λ p. on_of table p d) (table.cycle - 1)

-- the numbers 1, .., n at which f is greater than just before
abbrev pub rises_to : (ℕ → ℕ) → ℕ → List ℕ
rises_to f zero = []
rises_to f (suc n) = if nat_lt (f n) (f (suc n)) then rises_to f n ++ (suc n ∷ []) else rises_to f n

-- the times of the promise that the table implies
abbrev pub times_of : TableParts → List ℕ
times_of table = rises_to (floor_of table) table.cycle
