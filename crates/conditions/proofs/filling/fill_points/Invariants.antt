use Rattle.std.proofs.Common.{◌≡◌, length, take, All}
use Rattle.certificate.specs.Text.{IsTerms}
use Rattle.conditions.specs.Filled.{terms_of_points}
use Rattle.conditions.proofs.filling.fill_points.Given as goal

abbrev pub invariant-loop-at : goal.invariant-loop-at
invariant-loop-at g l = record {
  count : length l.terms ≡ length l.points;
  done : take l.at l.terms ≡ terms_of_points g.P.Policy.meaning g.M.Preemption.cuts l.sheet l.i (take l.at l.points);
  small : All IsTerms (take l.at l.terms);
}
