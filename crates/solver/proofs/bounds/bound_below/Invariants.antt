use Rattle.std.proofs.Common.{List, ◌-◌}
use Rattle.certificate.specs.declared.cert.Point.{Point}
use Rattle.solver.proofs.Listing.{SoFar}
use Rattle.solver.proofs.bounds.bound_below.Given as goal

abbrev pub invariant-loop-end : goal.invariant-loop-end
invariant-loop-end g l =
    (points : List Point) × SoFar g.P.Policy.meaning g.M.Preemption.cuts (g.S.Supply.sbf l.supply) l.sheet l.i l.window l.a l.bound points

abbrev pub decreases-loop-end : goal.decreases-loop-end
decreases-loop-end g l = l.window - l.a
