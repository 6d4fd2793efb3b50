use Rattle.std.proofs.Common.{◌≡◌, ◌+◌, length}
use Rattle.assign.specs.Sheets.{sheet_by}
use Rattle.assign.proofs.SheetFacts.{lifted}
use Rattle.assign.proofs.trials.all_above.Given as goal

abbrev pub invariant-loop-i : goal.invariant-loop-i
invariant-loop-i l = l.trial ≡ sheet_by l.sheet (lifted l.sheet (length l.sheet.tasks + 1) l.i)
