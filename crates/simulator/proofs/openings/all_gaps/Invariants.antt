use Rattle.std.proofs.Common.{◌≡◌, ◌<◌, ℕ, length, get_or}
use Rattle.curve.specs.CurveValue.{Curve}
use Rattle.curve.specs.Validity.{IsCurve}
use Rattle.simulator.specs.declared.gaps.Gaps.{Gaps}
use Rattle.simulator.specs.Gaps.{IsGaps}
use Rattle.simulator.proofs.openings.all_gaps.Given as goal

abbrev pub invariant-loop-o : goal.invariant-loop-o
invariant-loop-o l = record {
  len : length l.list.items ≡ l._o;
  gaps : (o : ℕ) (d : Gaps) (c : Curve) → o < l._o → IsCurve c → IsGaps c (get_or l.list.items o d);
}
