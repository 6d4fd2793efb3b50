use Rattle.std.proofs.Common.{◌<◌, ◌+◌, ◌∙◌, Option, drop, fold, get_or, length, map, ap, arith}
use Rattle.std.proofs.lemmas.List.{get_or_default}
use Rattle.certificate.specs.declared.cert.Terms.{Terms}
use Rattle.certificate.specs.declared.step.LineStep.TheVariants as says
use Rattle.certificate.specs.Text.{point_of, lines_of}
use Rattle.certificate.specs.Steps.{point_step}
use Rattle.cert_check.specs.declared.judged.Judged.{Judged}
use Rattle.cert_check.specs.JudgedLines.{judge_line}
use Rattle.cert_check.proofs.CertFacts.{points_on, points_past}
use Rattle.cert_check.proofs.cert_judging.points_judged.Goals as goal

pub loop-at-preserved : goal.loop-at-preserved
loop-at-preserved g c =
    let p = g.P.Policy.meaning in
    let m = g.M.Preemption.cuts in
    let sbf = g.S.Supply.sbf c.args.supply.now in
    let line = judge_line p m sbf c.args.sheet.now c.args.deadlines in
    let ps = c.as_slice-points.result.now in
    let ts = c.as_slice-terms.result.now in
    let k = c.loop-at.at in
    let q = get_or ps k (point_of 0 0) in
    let here : k < length ps = c.loop-at-test.true in
    record {
      rest = ap (λ (j : Judged). fold line j (map point_step (drop (k + 1) (lines_of ps ts))))
          (c.note_point.ensures.judged ∙ ap (λ (t : Option Terms). line c.loop-at.judged (says.Point q.offset q.end t)) c.told_at-told.ensures)
          ∙ points_on p m sbf c.args.sheet.now c.args.deadlines ps ts k c.loop-at.judged _ c.loop-at.invariant.rest q here
          (get_or_default ps k (point_of 0 0) q here);
      ready = c.note_point.ensures.ready;
    }

pub returns-clause-judged : goal.returns-clause-judged
returns-clause-judged g c =
    points_past g.P.Policy.meaning g.M.Preemption.cuts (g.S.Supply.sbf c.args.supply.now) c.args.sheet.now c.args.deadlines
    c.as_slice-points.result.now c.as_slice-terms.result.now c.loop-at.at c.loop-at.judged _ c.loop-at.invariant.rest (omega (arith, c.loop-at-test.false))
