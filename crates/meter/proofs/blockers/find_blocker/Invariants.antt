use Rattle.std.proofs.Common.{◌≡◌, ◌≤◌, ◌<◌, length}
use Rattle.lists.specs.Sums.{max_below}
use Rattle.demand.specs.Demand.{block_of}
use Rattle.meter.proofs.blockers.find_blocker.Given as goal

abbrev pub invariant-loop-o : goal.invariant-loop-o
invariant-loop-o g l = record {
  in_range : l.longest.task < length l.sheet.tasks;
  greatest : l.longest.block ≡ max_below (block_of g.P.Policy.meaning g.M.Preemption.cuts l.sheet l.i l.a) l.o;
  high : l.longest.block ≤ 1000000000;
}
