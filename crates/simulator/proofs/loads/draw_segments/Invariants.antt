use Rattle.std.proofs.Common.{◌≡◌, ◌-◌, ◌++◌, length, drop}
use Rattle.simulated_run.specs.Words.{after}
use Rattle.simulated_run.specs.Jobs.{drawn_segments}
use Rattle.simulator.proofs.loads.draw_segments.Given as goal

abbrev pub invariant-loop-segment : goal.invariant-loop-segment
invariant-loop-segment l = record {
  segs : l.segs.items ++ drawn_segments (drop l.segment-index l.segments) l.words ≡ drawn_segments l.segments l.initial.words;
  state : after (length l.segments - l.segment-index) l.words ≡ after (length l.segments) l.initial.words;
}
