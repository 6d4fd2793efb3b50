use Rattle.std.proofs.Common.{◌≡◌, ℕ, List, length, set, ap, arith, subst, refl, sym, ◌∙◌}
use Rattle.std.specs.Vec.{with_items}
use Rattle.std.proofs.lemmas.List.{with_items_is, length-set}
use Rattle.lists.specs.Sums.{sum_below}
use Rattle.task_sheet.specs.declared.tasks.Task.{Task}
use Rattle.task_sheet.specs.Sheets.{task_at}
use Rattle.policy.specs.declared.keys.Cap.{Cap}
use Rattle.meter.specs.declared.tracks.Place.{Place}
use Rattle.meter.specs.declared.tracks.Tracks.{Tracks}
use Rattle.meter.specs.Places.{kind_of, until_by, asked_of, IsNear}
use Rattle.meter.specs.Tracking.{IsEnded, IsStood}
use Rattle.meter.proofs.PlaceFacts.{small}
use Rattle.meter.proofs.StepFacts.{stood}
use Rattle.meter.proofs.moves.stand.Goals as goal

pub put-tracks-requires-clause-small : goal.put-tracks-requires-clause-small
put-tracks-requires-clause-small g c =
    let sheet = c.args.sheet.now in
    let o = c.args.o in
    let place = c.ended-place.result in
    small (task_at sheet o) (c.task-task.ensures.valid.each o c.requires.o) place
    (subst (λ (task : Task). IsNear task place) c.task-task.ensures.task c.ended-place.ensures.near)

pub returns : goal.returns
returns g c =
    let p = g.P.Policy.meaning in
    let sheet = c.args.sheet.now in
    let i = c.args.i in
    let o = c.args.o in
    let x = c.args.x in
    let t = c.args.tracks.now in
    let place = c.ended-place.result in
    let task = c.task-task.ensures.task in
    let near : IsNear (task_at sheet o) place = subst (λ (task : Task). IsNear task place) task c.ended-place.ensures.near in
    let kinds : IsEnded (task_at sheet o) x place (until_by c.kind-kind.result place (task_at sheet o).jitter) =
    subst (λ (task : Task). IsEnded task x place (until_by c.kind-kind.result place task.jitter)) task c.ended-place.ensures.ended in
    let ended : IsEnded (task_at sheet o) x place (until_by (kind_of p sheet i o) place (task_at sheet o).jitter) =
    subst (λ (kind : Cap). IsEnded (task_at sheet o) x place (until_by kind place (task_at sheet o).jitter)) c.kind-kind.ensures kinds in
    let until : c.until.result ≡ until_by (kind_of p sheet i o) place (task_at sheet o).jitter =
    c.until.ensures.exact ∙ ap (λ (kind : Cap). until_by kind place c.task-task.result.now.jitter) c.kind-kind.ensures
    ∙ ap (λ (task : Task). until_by (kind_of p sheet i o) place task.jitter) task in
    let new : Tracks = record {
      places = with_items t.places c.put-tracks.new.places;
      untils = c.set.new.self;
      changes = t.changes;
      sum = c.put-tracks.result;
    } in
    let put = c.put-tracks.ensures.places in
    let items : new.places.items ≡ c.put-tracks.new.places =
    with_items_is t.places c.put-tracks.new.places
    (omega (arith, ap (λ (ps : List Place). length ps) put, length-set c.deref_mut.result.now o place, c.deref_mut.ensures.len)) in
    let step = stood p sheet i x o c.requires.o place near ended t new c.requires.tracking
    (items ∙ put ∙ ap (λ (ps : List Place). set ps o place) c.deref_mut.ensures.value)
    (c.set.ensures ∙ ap (set t.untils o) until)
    refl
    (c.put-tracks.ensures.sum ∙ ap (λ (ps : List Place). sum_below (asked_of p sheet i ps) (length sheet.tasks)) (sym items)) in
    subst (λ (count : ℕ). IsStood p sheet i x o count t new) c.ended-place.ensures.count step
