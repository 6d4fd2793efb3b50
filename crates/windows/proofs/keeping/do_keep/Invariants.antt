use Rattle.std.proofs.Common.{◌-◌, ◌≤◌, length}
use Rattle.windows.specs.Distances.{DoKeep}
use Rattle.windows.proofs.keeping.do_keep.Given as goal

abbrev pub invariant-loop-first : goal.invariant-loop-first
invariant-loop-first l = record {
  apart : l.distance.apart ≤ l.first;
  kept : DoKeep l.arrivals l.distance l.distance.apart l.first;
}

abbrev pub decreases-loop-first : goal.decreases-loop-first
decreases-loop-first l = length l.arrivals - l.first
