use Rattle.std.proofs.Common.{◌≡◌, ◌≤◌, ◌*◌, length, take}
use Rattle.std.specs.List.{flat_map}
use Rattle.certificate.specs.Text.{lines_of, point_text}
use Rattle.certificate.proofs.measuring.points_len.Given as goal

abbrev pub invariant-loop-at : goal.invariant-loop-at
invariant-loop-at l = record {
  exact : l.len ≡ length (flat_map point_text (take l.at (lines_of l.entry.points l.entry.terms)));
  short : l.len ≤ 250 * l.at;
}
