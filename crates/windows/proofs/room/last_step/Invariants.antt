use Rattle.std.proofs.Common.{◌-◌, ◌<◌, ◌≤◌, length}
use Rattle.windows.specs.Steps.{step_at}
use Rattle.windows.proofs.room.last_step.Given as goal

abbrev pub invariant-loop-step : goal.invariant-loop-step
invariant-loop-step l = record { listed : l.step < length l.steps; begun : (step_at l.steps l.step).time ≤ l.d }

abbrev pub decreases-loop-step : goal.decreases-loop-step
decreases-loop-step l = length l.steps - l.step
