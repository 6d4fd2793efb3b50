use Rattle.std.proofs.Common.{append_assoc}
use Rattle.report.specs.TextReport.{row_line}
use Rattle.report.proofs.table.write_row.Goals as goal

pub returns : goal.returns
unfolding row_line
returns c =
    let written = rw (c.in_ok-write_claim.ensures, c.in_ok-write_task.ensures) at c.write_result.ensures in
    simp append_assoc (simp append_assoc at written)
