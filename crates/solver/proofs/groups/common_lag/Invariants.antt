use Rattle.std.proofs.Common.{◌≡◌, ℕ, ◌≤◌, ◌<◌, ◌*◌, ◌^◌, false, length}
use Rattle.solver.specs.Groups.{is_in, IsBehindBut}
use Rattle.solver.proofs.groups.common_lag.Given as goal

abbrev pub invariant-loop-o : goal.invariant-loop-o
invariant-loop-o l = record {
  behind : IsBehindBut l.sheet l.marks l.left (length l.sheet.tasks) l.lag;
  gone : (k : ℕ) → k < l.o → is_in l.left k ≡ false;
  bound : l.lag ≤ l.o * 2 ^ 58;
}
