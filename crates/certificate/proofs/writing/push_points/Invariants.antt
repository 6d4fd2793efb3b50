use Rattle.std.proofs.Common.{◌≡◌, ◌++◌, take}
use Rattle.std.specs.List.{flat_map}
use Rattle.certificate.specs.Text.{lines_of, point_text}
use Rattle.certificate.proofs.writing.push_points.Given as goal

abbrev pub invariant-loop-at : goal.invariant-loop-at
invariant-loop-at l = l.out.items ≡ l.fn.out.items ++ flat_map point_text (take l.at (lines_of l.points l.terms))
