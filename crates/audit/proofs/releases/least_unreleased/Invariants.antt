use Rattle.std.proofs.Common.{◌≡◌, length}
use Rattle.audit.specs.Releases.{AreLatest, IsLeastBroken}
use Rattle.audit.proofs.releases.least_unreleased.Given as goal

abbrev pub invariant-loop-i : goal.invariant-loop-i
invariant-loop-i l = record {
  count : length l.latest ≡ length l.sheet.tasks;
  latest : AreLatest l.run l.order l.i l.latest;
  least : IsLeastBroken l.sheet l.run l.order l.i l.least;
}
