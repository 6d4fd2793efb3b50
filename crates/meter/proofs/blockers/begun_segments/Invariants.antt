use Rattle.std.proofs.Common.{◌≡◌, ◌<◌, ℕ, length, slice_index_or}
use Rattle.meter.specs.Blockers.{IsLeft}
use Rattle.meter.proofs.blockers.begun_segments.Given as goal

abbrev pub invariant-loop-o : goal.invariant-loop-o
invariant-loop-o g l = record {
  count : length l.begun.items ≡ length l.sheet.tasks;
  each : (k : ℕ) → k < l.o → IsLeft g.M.Preemption.cuts l.sheet k (slice_index_or l.begun.items k 0);
}
