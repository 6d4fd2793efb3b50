use Rattle.std.proofs.Common.{◌≡◌, ◌++◌, drop}
use Rattle.poet_cli.specs.AssignAnswers.{places_text}
use Rattle.poet_cli.proofs.assigning.push_places.Given as goal

abbrev pub invariant-loop-i : goal.invariant-loop-i
invariant-loop-i l = record {
  rest : l.out.items ++ places_text (drop l.i l.sheet.tasks)
      (drop l.i l.places) ≡ l.fn.out.items ++ places_text l.sheet.tasks l.places;
}
