use Rattle.std.proofs.Common.{ℕ, ◌<◌}
use Rattle.schedule_laws.specs.Tests.{is_idle_broken}
use Rattle.audit.specs.Pending.{IsWaiting}
use Rattle.audit.specs.TickRules.{IsTick}
use Rattle.audit.proofs.idling.idle_place.Given as goal

abbrev pub invariant-loop-t : goal.invariant-loop-t
invariant-loop-t l = record {
  waiting : IsWaiting l.run l.t l.waiting;
  before : (s : ℕ) → s < l.t → IsTick (is_idle_broken l.run) l.run s → ⊥;
}
