use Rattle.std.proofs.Common.{◌≡◌, ◌≤◌, ◌+◌, [], drop}
use Rattle.run_text.specs.Parts.{nothing_read, IsSmall}
use Rattle.run_text.specs.Drafts.{part_of}
use Rattle.run_text.specs.Parsing.{read_on}
use Rattle.run_text.proofs.ReadOnFacts.{between}
use Rattle.run_text.proofs.reading.read_run.Given as goal

abbrev pub invariant-loop-at : goal.invariant-loop-at
invariant-loop-at l = record {
  start : l.start ≤ l.at;
  line : l.line ≤ l.at + 1;
  small : IsSmall (part_of l.draft);
  rest : read_on (part_of l.draft) l.line (between l.start l.at l.bytes) (drop l.at l.bytes) ≡ read_on nothing_read 1 [] l.bytes;
}
