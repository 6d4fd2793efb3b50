use Rattle.std.proofs.Common.{◌≡◌, ◌≤◌, take}
use Rattle.report.specs.Rows.{rows_of, missed_of}
use Rattle.report.proofs.rows.count_missed.Given as goal

abbrev pub invariant-loop-i : goal.invariant-loop-i
invariant-loop-i l = record { few : l.missed ≤ l.i; so_far : l.missed ≡ missed_of (take l.i (rows_of l.sheet l.cert)) }
