use Rattle.std.proofs.Common.{◌≡◌, drop}
use Rattle.std.specs.List.{list_all}
use Rattle.lists.specs.Ranges.{is_between}
use Rattle.task_sheet.proofs.checking.all_printable.Given as goal

abbrev pub invariant-loop-byte : goal.invariant-loop-byte
invariant-loop-byte l = list_all (is_between 33 126) (drop l.byte-index l.bytes) ≡ list_all (is_between 33 126) l.bytes
