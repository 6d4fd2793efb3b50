use Rattle.std.proofs.Common.{◌≡◌, ◌++◌, take}
use Rattle.std.specs.String.{string_bytes}
use Rattle.std.specs.List.{flat_map}
use Rattle.report.specs.Rows.{rows_of}
use Rattle.report.specs.TextReport.{header, row_line}
use Rattle.report.proofs.table.text_report.Given as goal

abbrev pub invariant-loop-i : goal.invariant-loop-i
invariant-loop-i l = string_bytes l.text ≡ header ++ flat_map row_line (take l.i (rows_of l.sheet l.cert))
