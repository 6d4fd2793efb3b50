use Rattle.bound_tests.proofs.JitterBounds.{blocked, blocking}
use Rattle.bound_tests.proofs.bounds.late_jobs_in_order.Goals as goal

pub returns-clause-late : goal.returns-clause-late
returns-clause-late c = blocked (c.points_bound.ensures (record {}) tt) (c.failed_means.ensures (record {}))

pub returns-clause-other : goal.returns-clause-other
returns-clause-other c = blocking (c.points_bound.ensures (record {}) tt) (c.failed_means.ensures (record {}))
