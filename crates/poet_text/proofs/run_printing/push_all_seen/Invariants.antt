use Rattle.std.proofs.Common.{◌≡◌, ◌++◌, drop}
use Rattle.poet_text.specs.RunPrinting.{seen_text}
use Rattle.poet_text.proofs.run_printing.push_all_seen.Given as goal

abbrev pub invariant-loop-i : goal.invariant-loop-i
invariant-loop-i l = record { rest : l.out.items ++ seen_text (drop l.i l.sheet.tasks) (drop l.i l.seen) ≡ l.fn.out.items ++ seen_text l.sheet.tasks l.seen }
