use Rattle.std.proofs.Common.{◌≡◌, ◌++◌, take}
use Rattle.std.specs.List.{flat_map}
use Rattle.curve_infer.specs.Text.{arrival_line}
use Rattle.curve_infer.proofs.writing.push_times.Given as goal

abbrev pub invariant-loop-time : goal.invariant-loop-time
invariant-loop-time l = l.out.items ≡ l.fn.out.items ++ flat_map arrival_line (take l.time-index l.times)
