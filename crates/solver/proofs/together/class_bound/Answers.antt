use Rattle.std.proofs.Common.{length}
use Rattle.demand.specs.Demand.{class_part_of}
use Rattle.solver.specs.Groups.{lowered}
use Rattle.solver.proofs.LoadFacts.{window_risen}
use Rattle.solver.proofs.GroupFacts.{under_together}
use Rattle.solver.proofs.together.class_bound.Goals as goal

pub returns-clause-below : goal.returns-clause-below
returns-clause-below g c sbf over =
    let p = g.P.Policy.meaning in
    let sheet = c.args.sheet.now in
    let line = c.class_beside-line.result in
    let lag = c.common_lag.result in
    window_risen p g.M.Preemption.cuts sheet c.args.i sbf c.args.window c.args.horizon c.args.wanted c.crossing_lowered.result (lowered line lag) c.requires.wanted
    (under_together (class_part_of p sheet c.args.i) sheet c.class_marks-marks.result 4000000000 (length sheet.tasks) lag c.args.window line
    c.class_beside-line.ensures.small.cut c.class_marks-marks.ensures c.common_lag.ensures c.class_beside-line.ensures.beside)
    (c.crossing_lowered.ensures.below sbf over)
