use Rattle.std.proofs.Common.{◌<◌, ◌≤◌, ◌-◌}
use Rattle.meter.specs.CapNumbers.{reach_at}
use Rattle.meter.proofs.changes.least_between.Given as goal

abbrev pub invariant-loop-low : goal.invariant-loop-low
invariant-loop-low g l = record {
  started : l.low ≤ 1000000000;
  within : l.high ≤ l.to;
  less : reach_at g.P.Policy.meaning l.sheet l.i l.o l.low < l.e;
  more : l.e ≤ reach_at g.P.Policy.meaning l.sheet l.i l.o l.high;
}

abbrev pub decreases-loop-low : goal.decreases-loop-low
decreases-loop-low g l = l.high - l.low
