use Rattle.std.proofs.Common.{◌≤◌, ◌-◌, length, take}
use Rattle.poet_io.specs.Eaters.{Ate}
use Rattle.cert_check.specs.Standing.{IsAt}
use Rattle.cert_check.proofs.checker.Checker.feed.Given as goal

abbrev pub invariant-loop-at : goal.invariant-loop-at
invariant-loop-at g l = record {
  within : l.at ≤ length l.piece;
  fed : Ate (IsAt g.P.Policy.meaning g.M.Preemption.cuts g.S.Supply.sbf) l.initial.self l.self (take l.at l.piece);
}

abbrev pub decreases-loop-at : goal.decreases-loop-at
decreases-loop-at g l = length l.piece - l.at
