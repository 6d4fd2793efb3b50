use Rattle.std.proofs.Common.{Some, refl, sym, subst}
use Rattle.certificate.specs.Text.{point_line}
use Rattle.certificate.specs.FirstLines.{said_at, IsLineOf}
use Rattle.certificate.proofs.ScanFacts.{point_right, point_first, point_progress, point_said}
use Rattle.certificate.proofs.lines.Lines.advance_full.Goals as goal

pub invariant_of-self : goal.invariant_of-self
invariant_of-self c =
    let l = point_line c.in-Some.point (Some c.in-Some.terms) in
    let of = subst (λ v. IsLineOf v l) (sym c.if-not-has_terms.ensures) c.in-Some.ensures.of in
    rw c.pass_point.ensures
    (point_right c.self.inside.place l c.self.inside.line c.args.bytes.now c.in-Some.rest.now
    (c.if-not-is_at_point.ensures refl) c.self.invariant of c.in-Some.ensures.text)

pub returns-clause-first : goal.returns-clause-first
returns-clause-first c =
    let l = point_line c.in-Some.point (Some c.in-Some.terms) in
    let of = subst (λ v. IsLineOf v l) (sym c.if-not-has_terms.ensures) c.in-Some.ensures.of in
    point_first c.self.inside.place.version l c.args.bytes.now c.in-Some.rest.now of c.in-Some.ensures.text

pub returns-clause-progress : goal.returns-clause-progress
returns-clause-progress c =
    let l = point_line c.in-Some.point (Some c.in-Some.terms) in
    let of = subst (λ v. IsLineOf v l) (sym c.if-not-has_terms.ensures) c.in-Some.ensures.of in
    rw (c.pass_point.ensures, ← c.self.view_is)
    (point_progress c.self.inside.place l c.self.inside.line c.args.bytes.now c.in-Some.rest.now
    (c.if-not-is_at_point.ensures refl) c.self.invariant of c.in-Some.ensures.text)

pub returns-clause-step : goal.returns-clause-step
returns-clause-step c =
    let l = point_line c.in-Some.point (Some c.in-Some.terms) in
    let of = subst (λ v. IsLineOf v l) (sym c.if-not-has_terms.ensures) c.in-Some.ensures.of in
    rw (← c.self.view_is)
    (point_said c.self.inside.place l c.self.inside.line
    (said_at c.self.inside.place.expected) c.args.bytes.now c.in-Some.rest.now (c.if-not-is_at_point.ensures refl) c.self.invariant
    of c.in-Some.ensures.text)
