use Rattle.std.proofs.Common.{◌≡◌, true, false, rules}
use Rattle.demand.specs.Demand.{class_part_of}
use Rattle.solver.specs.Groups.{is_in}
use Rattle.solver.proofs.GroupFacts.{beside_in, beside_out}
use Rattle.solver.proofs.together.class_share.Goals as goal

pub returns-then-marks-o-clause-beside : goal.returns-then-marks-o-clause-beside
returns-then-marks-o-clause-beside g c =
    let part = class_part_of g.P.Policy.meaning c.args.sheet.now c.args.i in
    let marked : is_in c.args.marks.now c.args.o ≡ true = search rules in
    beside_in part c.args.sheet.now c.args.marks.now 4000000000 c.args.o c.args.x c.bare_line.result c.task-task.result.now c.task-task.ensures.task marked
    (c.requires.whole c.args.o c.requires.o marked) c.bare_line.ensures.bare

pub returns-else-marks-o-clause-beside : goal.returns-else-marks-o-clause-beside
returns-else-marks-o-clause-beside g c =
    let part = class_part_of g.P.Policy.meaning c.args.sheet.now c.args.i in
    let unmarked : is_in c.args.marks.now c.args.o ≡ false = search rules in
    beside_out part c.args.sheet.now c.args.marks.now 4000000000 c.args.o c.args.x c.part_line.result unmarked c.part_line.ensures.under
