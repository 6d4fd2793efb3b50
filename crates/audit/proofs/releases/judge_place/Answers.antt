use Rattle.std.proofs.Common.{refl, sym, ap, ◌∙◌, max, ℕ, get_or, arith}
use Rattle.audit.proofs.ReleaseFacts.{least_more, latest_more}
use Rattle.audit.proofs.releases.judge_place.Goals as goal

pub returns-clause-latest : goal.returns-clause-latest
returns-clause-latest c =
    latest_more c.args.run.now c.args.order.now c.args.i c.task_of-o.result _ c.args.latest.now
    (omega (
      arith,
      c.requires.count,
      c.task_of-o.ensures,
      (c.requires.tasks _ (c.requires.order.listed c.args.i c.requires.place).listed),
    )) (sym c.task_of-o.ensures)
    (c.max.ensures ∙ ap (λ (n : ℕ). max (get_or c.args.latest.now c.task_of-o.result 0) n) c.release_of.ensures) c.requires.latest

pub returns-clause-least : goal.returns-clause-least
returns-clause-least c =
    least_more c.args.sheet.now c.args.run.now c.args.order.now c.requires.order c.args.i c.task_of-o.result _ c.args.latest.now
    c.args.least _ c.is_in_time-in_time.result c.requires.place
    (omega (
      arith,
      c.requires.count,
      c.task_of-o.ensures,
      (c.requires.tasks _ (c.requires.order.listed c.args.i c.requires.place).listed),
    )) c.task_of-o.ensures refl
    c.requires.latest c.is_in_time-in_time.ensures c.least_late.ensures c.requires.least
