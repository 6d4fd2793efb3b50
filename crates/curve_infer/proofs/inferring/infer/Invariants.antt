use Rattle.std.proofs.Common.{◌≡◌, ◌+◌, ◌-◌, ◌≤◌}
use Rattle.curve_infer.specs.Curves.{most_of, steps_to, IsNextRise}
use Rattle.curve_infer.proofs.inferring.infer.Given as goal

abbrev pub invariant-loop-n : goal.invariant-loop-n
invariant-loop-n l = record {
  low : 1 ≤ l.time;
  steps : l.steps.items ≡ steps_to (most_of l.times) (l.time - 1);
  rise : IsNextRise l.times (l.n + 1) l.horizon l.time;
}
