use Rattle.std.proofs.Common.{refl}
use Rattle.solver.proofs.LoadFacts.{flat, capped_flat, other_own, other_under}
use Rattle.solver.proofs.caps.other_line.Goals as goal

pub returns-then-o-i-clause-under : goal.returns-then-o-i-clause-under
returns-then-o-i-clause-under g c = other_own g.P.Policy.meaning c.args.sheet.now c.args.i c.args.a c.args.o c.args.x c.if-o-i.true

pub returns-then-horizon-long-clause-under : goal.returns-then-horizon-long-clause-under
returns-then-horizon-long-clause-under g c =
    let cap = g.P.Policy.meaning.cap c.args.sheet.now c.args.i c.args.o c.args.a in
    let valid = c.task-task.ensures.valid.each c.args.o c.requires.o in
    other_under g.P.Policy.meaning c.args.sheet.now c.args.i c.args.a c.args.o c.args.x flat _ cap c.if-o-i.false refl refl
    (capped_flat _ valid cap c.args.x)

pub returns-clause-under : goal.returns-clause-under
returns-clause-under g c =
    other_under g.P.Policy.meaning c.args.sheet.now c.args.i c.args.a c.args.o c.args.x c.cap_line.result c.task-task.result.now
    c.cap.result c.if-o-i.false c.task-task.ensures.task c.cap.ensures c.cap_line.ensures.under
