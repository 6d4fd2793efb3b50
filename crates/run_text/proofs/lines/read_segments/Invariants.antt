use Rattle.std.proofs.Common.{◌≡◌, ◌≤◌, [], length}
use Rattle.run_text.specs.Unread.{unread}
use Rattle.run_text.specs.Lines.{segments_from}
use Rattle.run_text.proofs.lines.read_segments.Given as goal

abbrev pub invariant-loop-word : goal.invariant-loop-word
invariant-loop-word l = record {
  few : length l.segments.items ≤ l.room;
  rest : segments_from l.room l.segments.items (unread l.word-iterator) ≡ segments_from l.room [] (unread l.fn.words);
}
