use Rattle.std.proofs.Common.{◌≤◌, ◌+◌, ◌∙◌, SFits, w64, ap, sym, refl, arith, rules}
use Rattle.std.proofs.lemmas.Int.{to_z-of_z}
use Rattle.task_sheet.specs.declared.tasks.Task.{Task}
use Rattle.task_sheet.specs.Sheets.{task_at}
use Rattle.policy.specs.declared.keys.Cap.TheVariants.{At, All}
use Rattle.policy.specs.Keys.{not_below_zero}
use Rattle.solver.proofs.GroupFacts.{other_whole, count_capped}
use Rattle.solver.proofs.together.counts_whole.Goals as goal

pub returns-in-At : goal.returns-in-At
returns-in-At g c is =
    let sheet = c.args.sheet.now in
    let fits : SFits w64 c.in-At.c = search rules in
    let same = ap not_below_zero (to_z-of_z w64 c.in-At.c fits) in
    let jitter = ap (λ (t : Task). t.jitter) c.task-task.ensures.task in
    let within : c.args.cut + (task_at sheet c.args.o).jitter ≤ not_below_zero c.in-At.c = omega (arith, c.reaches.ensures is, same, jitter) in
    other_whole g.P.Policy.meaning sheet c.args.i c.args.a c.args.o c.args.cut (At c.in-At.c) c.if-o-i.false (sym c.in-At.is ∙ c.cap.ensures)
    (λ l short. count_capped (task_at sheet c.args.o) c.in-At.c c.args.cut l within short)

pub returns-in-All : goal.returns-in-All
returns-in-All g c is =
    other_whole g.P.Policy.meaning c.args.sheet.now c.args.i c.args.a c.args.o c.args.cut All c.if-o-i.false (sym c.in-All.is ∙ c.cap.ensures) (λ l short. refl)
