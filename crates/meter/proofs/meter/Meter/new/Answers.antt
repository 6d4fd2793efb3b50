use Rattle.std.proofs.Common.{◌≡◌, replicate, length, rules}
use Rattle.meter.specs.declared.tracks.Place.{Place}
use Rattle.meter.proofs.StepFacts.{ready_ground}
use Rattle.meter.proofs.meter.Meter.new.Goals as goal

pub seat-requires-clause-ready : goal.seat-requires-clause-ready
seat-requires-clause-ready g c =
    let count = length c.args.sheet.now.tasks in
    let ground : Place = record { end = record { value = 0; from = 0; until = 1; come = 0 }; count = 0 } in
    let places : c.in_ok-vec.field-0.items ≡ replicate count ground = search rules in
    let untils : c.in_ok-new.field-0 ≡ replicate count 0 = search rules in
    let changes : c.in_ok-new-2.field-0 ≡ replicate count 0 = search rules in
    ready_ground c.args.sheet.now c.len-count.ensures.valid _ places untils changes
