use Rattle.std.proofs.Common.{◌≡◌, ℕ, ◌+◌, set, ap, subst, refl, sym, ◌∙◌}
use Rattle.task_sheet.specs.declared.tasks.Task.{Task}
use Rattle.task_sheet.specs.Sheets.{task_at}
use Rattle.policy.specs.declared.keys.Cap.{Cap}
use Rattle.meter.specs.Changes.{IsCounted}
use Rattle.meter.specs.Places.{kind_of, until_by, IsNear}
use Rattle.meter.specs.Tracking.{IsEnded}
use Rattle.meter.proofs.PlaceFacts.{small}
use Rattle.meter.proofs.StepFacts.{settled}
use Rattle.meter.proofs.moves.settle.Goals as goal

pub part-requires-clause-small : goal.part-requires-clause-small
part-requires-clause-small g c =
    let sheet = c.args.sheet.now in
    let o = c.args.o in
    let place = c.ended-place.result in
    small (task_at sheet o) (c.task-task.ensures.valid.each o c.requires.o) place
    (subst (λ (task : Task). IsNear task place) c.task-task.ensures.task c.ended-place.ensures.near)

pub returns-clause-settled : goal.returns-clause-settled
returns-clause-settled g c =
    let p = g.P.Policy.meaning in
    let sheet = c.args.sheet.now in
    let i = c.args.i in
    let o = c.args.o in
    let t = c.args.tracks.now in
    let place = c.ended-place.result in
    let task = c.task-task.ensures.task in
    let change = c.counting-counted.result.change in
    let near : IsNear (task_at sheet o) place = subst (λ (task : Task). IsNear task place) task c.ended-place.ensures.near in
    let kinds : IsEnded (task_at sheet o) 0 place (until_by c.kind-kind.result place (task_at sheet o).jitter) =
    subst (λ (task : Task). IsEnded task 0 place (until_by c.kind-kind.result place task.jitter)) task c.ended-place.ensures.ended in
    let ended : IsEnded (task_at sheet o) 0 place (until_by (kind_of p sheet i o) place (task_at sheet o).jitter) =
    subst (λ (kind : Cap). IsEnded (task_at sheet o) 0 place (until_by kind place (task_at sheet o).jitter)) c.kind-kind.ensures kinds in
    let until : c.until.result ≡ until_by (kind_of p sheet i o) place (task_at sheet o).jitter =
    c.until.ensures.exact ∙ ap (λ (kind : Cap). until_by kind place c.task-task.result.now.jitter) c.kind-kind.ensures
    ∙ ap (λ (task : Task). until_by (kind_of p sheet i o) place task.jitter) task in
    let counted : IsCounted p sheet i 0 o place.count change =
    subst (λ (count : ℕ). IsCounted p sheet i 0 o count change) (sym c.ended-place.ensures.count) c.counting-counted.ensures.counted in
    settled p sheet i o c.requires.o place near ended change counted t _ c.requires.ready
    refl
    (c.set.ensures ∙ ap (set t.untils o) until)
    c.set-2.ensures
    (ap (λ (w : ℕ). t.sum + w) c.part.ensures.exact)
