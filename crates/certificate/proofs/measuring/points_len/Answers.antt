use Rattle.std.proofs.Common.{◌≡◌, ◌<◌, ◌∙◌, List, ap, refl, length, get_or, slice_get, arith}
use Rattle.std.proofs.lemmas.List.{get_or_default}
use Rattle.certificate.specs.Text.{point_of, point_line, point_text}
use Rattle.certificate.specs.declared.cert.Point.{Point}
use Rattle.certificate.specs.declared.cert.Terms.{Terms}
use Rattle.certificate.proofs.WritingFacts.{points_measured}
use Rattle.certificate.proofs.measuring.points_len.Goals as goal

pub loop-at-preserved : goal.loop-at-preserved
loop-at-preserved c =
    let qs = c.as_slice-point-items.result.now in
    let ps = c.args.entry.now.points in
    let ts = c.args.entry.now.terms in
    let i = c.loop-at.at in
    let p = get_or qs i (point_of 0 0) in
    let listed : i < length qs = c.loop-at-test.true in
    let here : i < length ps = omega (arith, listed, ap length c.as_slice-point-items.ensures) in
    let is : p ≡ get_or ps i p = get_or_default qs i (point_of 0 0) p listed ∙ ap (λ (l : List Point). get_or l i p) c.as_slice-point-items.ensures in
    let line = c.point_len-len.ensures.exact ∙ ap (λ (l : List Terms). length (point_text (point_line p (slice_get l i)))) c.as_slice.ensures in
    record {
      exact = points_measured ps ts i p c.loop-at.len c.point_len-len.result _ here is c.loop-at.invariant.exact line refl;
      short = omega (arith, c.loop-at.invariant.short, c.point_len-len.ensures.short);
    }
