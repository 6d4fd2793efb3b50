use Rattle.std.proofs.Common.{◌≡◌, ◌<◌, None, IfSome, drop}
use Rattle.certificate.specs.Text.{lines_of}
use Rattle.conditions.specs.Conditions.{points_failed_of}
use Rattle.conditions.proofs.points.points_failed.Given as goal

abbrev pub invariant-loop-at : goal.invariant-loop-at
invariant-loop-at g l =
    let rest = points_failed_of g.P.Policy.meaning g.M.Preemption.cuts (g.S.Supply.sbf l.supply) l.sheet l.i l.window l.bound in
    record {
      rest : rest l.before (drop l.at (lines_of l.points l.terms)) ≡ rest None (lines_of l.points l.terms);
      below : IfSome l.before (λ p. p < l.window);
    }
