use Rattle.std.proofs.Common.{◌≡◌, ℕ, ◌-◌, ◌<◌, ◌≤◌}
use Rattle.run_model.specs.Runs.{is_on, ticks_in}
use Rattle.schedule_laws.proofs.supplied.short_at.Given as goal

abbrev pub invariant-loop-d : goal.invariant-loop-d
invariant-loop-d g l = record {
  counted : l.supplied ≡ ticks_in is_on l.run (l.u - l.d) l.d;
  few : l.supplied ≤ l.d;
  free : (e : ℕ) → e < l.d → ticks_in is_on l.run (l.u - e) e < g.S.Supply.sbf l.supply e → ⊥;
}
