use Rattle.std.proofs.Common.{◌≡◌, ◌+◌, ◌++◌, drop, sum}
use Rattle.audit.specs.CutSums.{sums_from}
use Rattle.audit.proofs.cuts.sums_of.Given as goal

abbrev pub invariant-loop-segment : goal.invariant-loop-segment
invariant-loop-segment l = record {
  total : l.total + sum (drop l.segment-index l.segments) ≡ sum l.segments;
  rest : l.sums.items ++ sums_from l.total (drop l.segment-index l.segments) ≡ sums_from 0 l.segments;
}
