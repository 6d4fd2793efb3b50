use Rattle.std.specs.Prelude.{◌≡◌, ◌*◌}
use Rattle.simulated_run.specs.Words.{after}
use Rattle.exercise.specs.GeneratedSheet.{first_tasks}
use Rattle.exercise.proofs.making.make_sheet.Given as goal

abbrev pub invariant-loop-i : goal.invariant-loop-i
invariant-loop-i l = record {
  state : l.words ≡ after (2 * l.i) l.seed;
  tasks : l.tasks.items ≡ first_tasks l.seed l.n l.i;
}
