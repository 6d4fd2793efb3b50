use Rattle.std.proofs.Common.{◌≡◌, drop, fold, map}
use Rattle.certificate.specs.Text.{lines_of}
use Rattle.certificate.specs.Steps.{point_step, points_steps}
use Rattle.cert_check.specs.JudgedLines.{judge_line}
use Rattle.cert_check.specs.Standing.{IsReady}
use Rattle.cert_check.proofs.cert_judging.points_judged.Given as goal

abbrev pub invariant-loop-at : goal.invariant-loop-at
invariant-loop-at g l =
    let line = judge_line g.P.Policy.meaning g.M.Preemption.cuts (g.S.Supply.sbf l.supply) l.sheet l.deadlines in
    record {
      rest : fold line l.judged (map point_step (drop l.at (lines_of l.points l.terms))) ≡ fold line l.fn.judged (points_steps l.entry);
      ready : IsReady l.sheet l.meter l.judged;
    }
