use Rattle.std.proofs.Common.{◌≡◌, ◌<◌, ℕ, [], length, get_or}
use Rattle.std.specs.Global.{Vec}
use Rattle.simulator.proofs.running.no_arrivals.Given as goal

abbrev pub invariant-loop-o : goal.invariant-loop-o
invariant-loop-o l = record {
  len : length l.lists.items ≡ l._o;
  none : (o : ℕ) (d : Vec ℕ) → o < l._o → (get_or l.lists.items o d).items ≡ [];
}
