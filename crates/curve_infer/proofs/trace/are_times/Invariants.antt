use Rattle.std.proofs.Common.{◌≡◌, drop}
use Rattle.curve_infer.specs.Traces.{are_times}
use Rattle.curve_infer.proofs.trace.are_times.Given as goal

abbrev pub invariant-loop-time : goal.invariant-loop-time
invariant-loop-time l = are_times l.last (drop l.time-index l.times) ≡ are_times 0 l.times
