use Rattle.std.proofs.Common.{ℕ, ◌<◌, length}
use Rattle.windows.specs.Distances.{distance_at, DoKeep}
use Rattle.windows.proofs.keeping.keep_all.Given as goal

abbrev pub invariant-loop-n : goal.invariant-loop-n
invariant-loop-n l = (i : ℕ) → i < l.n → DoKeep l.arrivals (distance_at l.needed i) (distance_at l.needed i).apart (length l.arrivals)
