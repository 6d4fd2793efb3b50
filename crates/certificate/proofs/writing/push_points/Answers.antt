use Rattle.std.proofs.Common.{get_or}
use Rattle.std.proofs.lemmas.List.{get_or_default}
use Rattle.certificate.specs.Text.{point_of}
use Rattle.certificate.proofs.WritingFacts.{points_pushed}
use Rattle.certificate.proofs.writing.push_points.Goals as goal

pub loop-at-preserved : goal.loop-at-preserved
loop-at-preserved c =
    let ps = c.args.points.now in
    let i = c.loop-at.at in
    let p = get_or ps i (point_of 0 0) in
    let here = c.loop-at-test.true in
    points_pushed ps c.args.terms.now i p c.args.out.now.items c.loop-at.out.items c.push_point.new.out.items here
    (get_or_default ps i (point_of 0 0) p here) c.loop-at.invariant c.in_ok-push_point.ensures
