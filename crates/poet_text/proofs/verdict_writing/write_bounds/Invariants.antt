use Rattle.std.proofs.Common.{◌≡◌, ◌≤◌, List, ℕ, ◌++◌, drop}
use Rattle.poet_io.specs.Sinks.{Appended}
use Rattle.poet_text.specs.Printing.{bounds_text}
use Rattle.poet_text.proofs.verdict_writing.write_bounds.Given as goal

abbrev pub invariant-loop-i : goal.invariant-loop-i
invariant-loop-i g l = record {
  later : g.O.Sink.faults l.fn.out ≤ g.O.Sink.faults l.out;
  done : List ℕ;
  so_far : Appended (g.O.Sink.written l.fn.out) (g.O.Sink.written l.out) done;
  rest : bounds_text l.sheet.tasks l.bounds ≡ done ++ bounds_text (drop l.i l.sheet.tasks) (drop l.i l.bounds);
}
