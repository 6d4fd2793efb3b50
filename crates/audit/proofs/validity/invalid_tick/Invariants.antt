use Rattle.std.proofs.Common.{◌≡◌, ℕ, ◌<◌, true}
use Rattle.schedule_laws.specs.Tests.{is_valid_at}
use Rattle.audit.specs.UndoneJobs.{AreUndone}
use Rattle.audit.proofs.validity.invalid_tick.Given as goal

abbrev pub invariant-loop-t : goal.invariant-loop-t
invariant-loop-t l = record {
  undone : AreUndone l.run l.t l.undone;
  before : (s : ℕ) → s < l.t → is_valid_at l.run s ≡ true;
}
