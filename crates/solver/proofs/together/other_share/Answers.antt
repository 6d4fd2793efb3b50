use Rattle.std.proofs.Common.{◌≡◌, true, false, rules}
use Rattle.demand.specs.Demand.{other_of}
use Rattle.solver.specs.Groups.{is_in}
use Rattle.solver.proofs.GroupFacts.{beside_in, beside_out}
use Rattle.solver.proofs.together.other_share.Goals as goal

pub returns-then-marks-o-clause-beside : goal.returns-then-marks-o-clause-beside
returns-then-marks-o-clause-beside g c =
    let part = other_of g.P.Policy.meaning c.args.sheet.now c.args.i c.args.a in
    let marked : is_in c.args.marks.now c.args.o ≡ true = search rules in
    beside_in part c.args.sheet.now c.args.marks.now c.args.cut c.args.o c.args.x c.bare_line.result c.task-task.result.now c.task-task.ensures.task marked
    (c.requires.whole c.args.o c.requires.o marked) c.bare_line.ensures.bare

pub returns-else-marks-o-clause-beside : goal.returns-else-marks-o-clause-beside
returns-else-marks-o-clause-beside g c =
    let part = other_of g.P.Policy.meaning c.args.sheet.now c.args.i c.args.a in
    let unmarked : is_in c.args.marks.now c.args.o ≡ false = search rules in
    beside_out part c.args.sheet.now c.args.marks.now c.args.cut c.args.o c.args.x c.other_line.result unmarked c.other_line.ensures.under
