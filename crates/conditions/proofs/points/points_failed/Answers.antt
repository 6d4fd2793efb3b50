use Rattle.std.proofs.Common.{◌<◌, ◌∙◌, get_or, length, sym, ap, arith}
use Rattle.std.proofs.lemmas.List.{get_or_default}
use Rattle.certificate.specs.Text.{point_of}
use Rattle.conditions.specs.Conditions.{point_failed_of}
use Rattle.conditions.proofs.FailedFacts.{point_passed, point_stopped, points_passed}
use Rattle.conditions.proofs.points.points_failed.Goals as goal

pub returns-in-Some : goal.returns-in-Some
returns-in-Some g c =
    let p = g.P.Policy.meaning in
    let m = g.M.Preemption.cuts in
    let sbf = g.S.Supply.sbf c.args.supply.now in
    let ps = c.args.points.now in
    let k = c.loop-at.at in
    let q = get_or ps k (point_of 0 0) in
    let here : k < length ps = c.loop-at-test.true in
    let judged = point_failed_of p m sbf c.args.sheet.now c.args.i c.args.window c.args.bound c.loop-at.before q.offset q.end in
    point_stopped p m sbf c.args.sheet.now c.args.i c.args.window c.args.bound ps c.args.terms.now c.loop-at.before k _ c.loop-at.invariant.rest q
    c.in-Some.failed here (get_or_default ps k (point_of 0 0) q here) (ap judged (sym c.told_at.ensures) ∙ sym c.in-Some.ensures.first)

pub loop-at-preserved : goal.loop-at-preserved
loop-at-preserved g c =
    let p = g.P.Policy.meaning in
    let m = g.M.Preemption.cuts in
    let sbf = g.S.Supply.sbf c.args.supply.now in
    let ps = c.args.points.now in
    let k = c.loop-at.at in
    let q = get_or ps k (point_of 0 0) in
    let here : k < length ps = c.loop-at-test.true in
    let judged = point_failed_of p m sbf c.args.sheet.now c.args.i c.args.window c.args.bound c.loop-at.before q.offset q.end in
    record {
      rest = point_passed p m sbf c.args.sheet.now c.args.i c.args.window c.args.bound ps c.args.terms.now c.loop-at.before k _ c.loop-at.invariant.rest q
          here (get_or_default ps k (point_of 0 0) q here) (ap judged (sym c.told_at.ensures) ∙ sym c.in_default.ensures.first);
      below = c.in_default.ensures.below;
    }

pub returns : goal.returns
returns g c =
    c.last_gap_failed.ensures ∙ points_passed g.P.Policy.meaning g.M.Preemption.cuts (g.S.Supply.sbf c.args.supply.now) c.args.sheet.now c.args.i
    c.args.window c.args.bound c.args.points.now c.args.terms.now c.loop-at.before c.loop-at.at _ c.loop-at.invariant.rest (omega (arith, c.loop-at-test.false))
