use Rattle.std.proofs.Common.{◌≡◌, drop}
use Rattle.task_sheet.specs.Rules.{rise_above}
use Rattle.task_sheet.proofs.checking.do_rise.Given as goal

abbrev pub invariant-loop-time : goal.invariant-loop-time
invariant-loop-time l = rise_above l.last (drop l.time-index l.times) ≡ rise_above 0 l.times
