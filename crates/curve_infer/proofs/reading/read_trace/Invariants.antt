use Rattle.std.proofs.Common.{◌≡◌, ◌≤◌, ◌+◌, [], drop}
use Rattle.curve_infer.specs.Parsing.{nothing_read, part_of, read_on}
use Rattle.curve_infer.proofs.ReadOnFacts.{between}
use Rattle.curve_infer.proofs.reading.read_trace.Given as goal

abbrev pub invariant-loop-at : goal.invariant-loop-at
invariant-loop-at l = record {
  start : l.start ≤ l.at;
  line : l.line ≤ l.at + 1;
  rest : read_on (part_of l.draft) l.line (between l.start l.at l.bytes) (drop l.at l.bytes) ≡ read_on nothing_read 1 [] l.bytes;
}
