use Rattle.std.proofs.Common.{◌≡◌}
use Rattle.curve_infer.specs.Gaps.{gap_of}
use Rattle.lists.specs.Sums.{min_to}
use Rattle.curve_infer.proofs.inferring.least_gap.Given as goal

abbrev pub invariant-loop-i : goal.invariant-loop-i
invariant-loop-i l = l.least ≡ min_to (gap_of l.times l.behind) l.i
