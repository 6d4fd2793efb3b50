use Rattle.std.proofs.Common.{◌≡◌, drop}
use Rattle.task_sheet.specs.Rules.{last_number}
use Rattle.preemption.proofs.segments.last.Given as goal

abbrev pub invariant-loop-segment : goal.invariant-loop-segment
invariant-loop-segment l = last_number l.latest (drop l.segment-index l.segments) ≡ last_number 0 l.segments
