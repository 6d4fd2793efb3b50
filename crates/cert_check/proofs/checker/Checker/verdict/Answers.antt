use Rattle.std.proofs.Common.{sym, ◌∙◌, subst, ap}
use Rattle.cert_check.specs.Standing.{IsAt}
use Rattle.cert_check.specs.declared.judging.Verdict.TheVariants.{Accepted}
use Rattle.cert_check.proofs.CheckerFacts.{at_text, at_refused, at_accepted}
use Rattle.cert_check.proofs.checker.Checker.verdict.Goals as goal

pub returns-then-not-is_over : goal.returns-then-not-is_over
returns-then-not-is_over g c = λ made b h.
    let at = subst (λ v. IsAt g.P.Policy.meaning g.M.Preemption.cuts g.S.Supply.sbf v made b) (sym c.self.view_is) h in
    at_text _ _ _ _ made b at c.text_has_one_reading.ensures c.is_over.result (c.is_over.ensures b at.fed.lines_are)
    c.if-not-is_over.true _ (c.line.ensures b at.fed.lines_are)

pub returns-in-Some : goal.returns-in-Some
returns-in-Some g c = λ made b h.
    let at = subst (λ v. IsAt g.P.Policy.meaning g.M.Preemption.cuts g.S.Supply.sbf v made b) (sym c.self.view_is) h in
    at_refused _ _ _ _ made b at c.text_has_one_reading.ensures c.is_over.result (c.is_over.ensures b at.fed.lines_are)
    c.if-not-is_over.false c.in-Some.failed c.in-Some.is

pub returns : goal.returns
returns g c = λ made b h.
    let at = subst (λ v. IsAt g.P.Policy.meaning g.M.Preemption.cuts g.S.Supply.sbf v made b) (sym c.self.view_is) h in
    ap Accepted c.new.ensures ∙ at_accepted _ _ _ _ made b at c.text_has_one_reading.ensures c.is_over.result (c.is_over.ensures b at.fed.lines_are)
    c.if-not-is_over.false c.in-None.is
