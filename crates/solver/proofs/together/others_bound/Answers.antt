use Rattle.std.proofs.Common.{length}
use Rattle.demand.specs.Demand.{other_of}
use Rattle.solver.specs.Groups.{lowered}
use Rattle.solver.proofs.LoadFacts.{end_risen}
use Rattle.solver.proofs.GroupFacts.{under_together}
use Rattle.solver.proofs.together.others_bound.Goals as goal

pub returns-clause-below : goal.returns-clause-below
returns-clause-below g c sbf over =
    let p = g.P.Policy.meaning in
    let sheet = c.args.sheet.now in
    let line = c.others_beside-line.result in
    let lag = c.common_lag.result in
    end_risen p g.M.Preemption.cuts sheet c.args.i c.args.a sbf c.args.x c.args.limit c.args.wanted c.crossing_lowered.result (lowered line lag) c.requires.wanted
    (under_together (other_of p sheet c.args.i c.args.a) sheet c.others_marks-marks.result c.args.cut (length sheet.tasks) lag c.args.x line
    c.others_beside-line.ensures.cut c.others_marks-marks.ensures c.common_lag.ensures c.others_beside-line.ensures.beside)
    (c.crossing_lowered.ensures.below sbf over)
