use Rattle.std.proofs.Common.{◌≡◌, None, drop, fold}
use Rattle.certificate.specs.Steps.{entries_steps}
use Rattle.cert_check.specs.JudgedLines.{judge_line}
use Rattle.cert_check.specs.Standing.{IsReady}
use Rattle.cert_check.proofs.cert_judging.entries_judged.Given as goal

abbrev pub invariant-loop-i : goal.invariant-loop-i
invariant-loop-i g l =
    let line = judge_line g.P.Policy.meaning g.M.Preemption.cuts (g.S.Supply.sbf l.supply) l.sheet l.deadlines in
    record {
      rest : fold line l.judged (entries_steps l.i (drop l.i l.entries)) ≡ fold line l.fn.judged (entries_steps 0 l.entries);
      ready : IsReady l.sheet l.meter l.judged;
      keeps : l.judged.failed ≡ None → l.fn.judged.failed ≡ None;
    }
