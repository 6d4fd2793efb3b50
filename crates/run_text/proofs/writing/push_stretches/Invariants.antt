use Rattle.std.proofs.Common.{◌≡◌, ◌++◌, ◌+◌, ◌≤◌, drop}
use Rattle.std.specs.List.{flat_map}
use Rattle.run_text.specs.Text.{stretch_line, with_front, stretches_of}
use Rattle.run_text.proofs.writing.push_stretches.Given as goal

abbrev pub invariant-loop-next : goal.invariant-loop-next
invariant-loop-next l =
    (l.count ≤ l.next-index + 1) ×
    (l.out.items ++ flat_map stretch_line (with_front l.tick l.count (stretches_of (drop l.next-index l.rest))) ≡ l.fn.out.items
    ++ flat_map stretch_line (with_front l.fn.first 1 (stretches_of l.rest)))
