use Rattle.bound_tests.proofs.JitterBounds.{late_by_3, late_by_4}
use Rattle.bound_tests.proofs.bounds.one_late_task.Goals as goal

pub returns-clause-by_3 : goal.returns-clause-by_3
returns-clause-by_3 c = late_by_3 (c.points_bound.ensures (record {}) tt) (c.failed_means.ensures (record {}))

pub returns-clause-by_4 : goal.returns-clause-by_4
returns-clause-by_4 c = late_by_4 (c.points_bound.ensures (record {}) tt) (c.failed_means.ensures (record {}))
