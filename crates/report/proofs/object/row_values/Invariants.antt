use Rattle.std.proofs.Common.{◌≡◌, map, take}
use Rattle.serde_json.specs.View.{view}
use Rattle.report.specs.Rows.{rows_of}
use Rattle.report.specs.JsonReport.{row_data}
use Rattle.report.proofs.object.row_values.Given as goal

abbrev pub invariant-loop-i : goal.invariant-loop-i
invariant-loop-i l = map view l.values.items ≡ map row_data (take l.i (rows_of l.sheet l.cert))
