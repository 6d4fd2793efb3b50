use Rattle.std.proofs.Common.{◌≡◌, ◌≤◌, ◌<◌, ◌+◌, ◌-◌, true}
use Rattle.search_space.specs.Points.{same_at}
use Rattle.search_space.proofs.points.gallop.Given as goal

abbrev pub invariant-loop-i : goal.invariant-loop-i
invariant-loop-i g l = record {
  after : l.a ≤ l.same;
  below : l.same < l.below;
  jumps : 1 ≤ l.jump;
  short : l.a + l.jump ≤ l.same + 1;
  same : same_at g.P.Policy.meaning l.sheet l.i l.a l.same ≡ true;
}

abbrev pub decreases-loop-i : goal.decreases-loop-i
decreases-loop-i g l = l.below - l.same
