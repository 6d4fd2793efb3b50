use Rattle.std.specs.Prelude.{List, length}
use Rattle.std.specs.List.{refill}
use Rattle.std.specs.Borrow.{Lends, Fml, RattleType, MutBor, Array}
use Rattle.lists.specs.contracts.items.Items.{the_row}

-- once the slice is given back, the list is as the slice was last, which has as many elements
abbrev pub LendsSlice : (T : RattleType) → MutBor (List T.Denot) → MutBor (List T.Denot) → Fml
LendsSlice T items slice = Lends (the_row T) (Array T 0) items slice (refill (length items.now) items.now)
