use Rattle.std.proofs.Common.{ℕ, ◌<◌, length}
use Rattle.schedule_laws.specs.Compliance.{can_cut}
use Rattle.schedule_laws.specs.Tests.{is_segment_broken}
use Rattle.audit.specs.ServiceCounts.{IsServed}
use Rattle.audit.specs.TickRules.{IsTick, OnlyMayFail}
use Rattle.audit.proofs.segments.segment_place.Given as goal

abbrev pub invariant-loop-t : goal.invariant-loop-t
invariant-loop-t g l = record {
  served : IsServed l.run l.t l.served.items;
  last : OnlyMayFail (λ k. can_cut g.M.Preemption.cuts l.sheet l.run k l.t) (length l.run.jobs) l.last;
  before : (s : ℕ) → s < l.t → IsTick (is_segment_broken g.M.Preemption.cuts l.sheet l.run) l.run s → ⊥;
}
