use Rattle.std.proofs.Common.{◌∙◌, arith, ap, sym, subst}
use Rattle.simulated_run.specs.Words.{next}
use Rattle.task_sheet.specs.SheetParts.{SheetParts}
use Rattle.task_sheet.specs.Sheets.{IsValidSheet}
use Rattle.exercise.proofs.WordFacts.{after_two}
use Rattle.exercise.proofs.SheetFacts.{task_more, sheet_from, sheet_valid}
use Rattle.exercise.proofs.making.make_sheet.Goals as goal

pub loop-i-preserved : goal.loop-i-preserved
loop-i-preserved c = record {
  state = c.draw-cost.ensures.state ∙ ap next c.draw-scale.ensures.state ∙ after_two c.loop-i.i c.args.seed c.loop-i.words c.loop-i.invariant.state;
  tasks =
      task_more c.args.seed c.args.n c.loop-i.i c.loop-i.words c.draw-scale.new.words c.draw-scale.result c.draw-cost.result
      c.in_ok-make_task.field-0 c.loop-i.tasks.items c.push.new.self.items
      c.loop-i.invariant.state c.draw-scale.ensures.state c.draw-scale.ensures.number c.draw-cost.ensures.number
      c.in_ok-make_task.ensures c.loop-i.invariant.tasks (cc (c.in_ok-push.ensures.items));
}

pub new-requires : goal.new-requires
new-requires c =
    subst (λ (s : SheetParts). IsValidSheet s)
    (sym (sheet_from c.args.seed c.args.n c.loop-i.i c.loop-i.tasks.items (omega arith) c.loop-i.invariant.tasks))
    (sheet_valid c.args.seed c.args.n c.requires.some c.requires.few)

pub returns : goal.returns
returns c = c.new.ensures ∙ sheet_from c.args.seed c.args.n c.loop-i.i c.loop-i.tasks.items (omega arith) c.loop-i.invariant.tasks
