use Rattle.std.proofs.Common.{◌≡◌, drop}
use Rattle.task_sheet.specs.Rules.{last_number}
use Rattle.task_sheet.proofs.checking.last_of.Given as goal

abbrev pub invariant-loop-time : goal.invariant-loop-time
invariant-loop-time l = last_number l.last (drop l.time-index l.times) ≡ last_number 0 l.times
