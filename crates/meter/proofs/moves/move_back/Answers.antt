use Rattle.std.proofs.Common.{◌≡◌, ap, arith}
use Rattle.std.proofs.lemmas.List.{get_or_read}
use Rattle.task_sheet.specs.declared.tasks.Task.{Task}
use Rattle.meter.specs.declared.tracks.Place.{Place}
use Rattle.meter.specs.Places.{no_place, place_of}
use Rattle.meter.proofs.StepFacts.{end_stays}
use Rattle.meter.proofs.moves.move_back.Goals as goal

pub returns-then-before-x : goal.returns-then-before-x
returns-then-before-x g c =
    let o = c.args.o in
    let places = c.args.tracks.now.places.items in
    let before : c.index-before.result.now ≡ place_of places o =
    get_or_read places o c.index-before.result.now (omega (arith, c.requires.tracking.count, c.requires.o)) c.index-before.ensures no_place in
    end_stays g.P.Policy.meaning c.args.sheet.now c.args.i c.args.x o c.args.tracks.now c.requires.tracking (record {
      begun = omega (arith, ap (λ (s : Place). s.end.from) before, ap (λ (task : Task). task.jitter) c.task.ensures.task);
      open_yet = c.requires.still;
    })
