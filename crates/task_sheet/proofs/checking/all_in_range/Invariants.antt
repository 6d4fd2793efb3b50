use Rattle.std.proofs.Common.{◌≡◌, drop}
use Rattle.std.specs.List.{list_all}
use Rattle.task_sheet.specs.Rules.{is_in_range}
use Rattle.task_sheet.proofs.checking.all_in_range.Given as goal

abbrev pub invariant-loop-n : goal.invariant-loop-n
invariant-loop-n l = list_all is_in_range (drop l.n-index l.numbers) ≡ list_all is_in_range l.numbers
