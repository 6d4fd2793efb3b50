use Rattle.std.proofs.Common.{refl, sym, subst}
use Rattle.task_sheet.specs.Sheets.{IsValidSheet}
use Rattle.preemption.specs.CutLaws.{Serves}
use Rattle.cert_check.specs.Standing.{IsAt}
use Rattle.cert_check.specs.Verdicts.{IsVerdict, IsBoundedBy}
use Rattle.cert_check.proofs.CheckerFacts.{made_of, verdict_means, verdict_bounds}
use Rattle.cert_check.proofs.checker.Checker.finish.Goals as goal

pub returns-clause-judged : goal.returns-clause-judged
returns-clause-judged g c = λ made b h.
    subst (IsVerdict g.P.Policy.meaning g.M.Preemption.cuts (g.S.Supply.sbf made.supply) made.sheet made.deadlines b) (sym (c.verdict.ensures made b h))
    (verdict_means _ _ _ _ _ c.text_has_one_reading.ensures b)

pub returns-clause-bounded : goal.returns-clause-bounded
returns-clause-bounded g c =
    let p = g.P.Policy.meaning in
    let m = g.M.Preemption.cuts in
    let sbf = g.S.Supply.sbf in
    let kept = c.self.invariant in
    let self = c.args.self in
    let at : IsAt p m sbf self (made_of self) kept.bytes = subst (λ v. IsAt p m sbf v (made_of v) kept.bytes) c.self.view_is
    (record { sheet_is = refl; supply_is = refl; deadlines_are = refl; fed = kept.fed }) in
    subst (IsBoundedBy p m (sbf self.supply) self.sheet self.deadlines) (sym (c.verdict.ensures (made_of self) kept.bytes at))
    (verdict_bounds p m (sbf self.supply) self.sheet self.deadlines c.text_has_one_reading.ensures
    (c.points_bound.ensures self.supply (subst (λ v. g.S.Supply.is_supply v.supply) c.self.view_is c.known.ensures)) (c.failed_means.ensures self.supply)
    (subst (λ v. IsValidSheet v.sheet) c.self.view_is c.len-valid.ensures.valid) (subst (λ v. Serves m v.sheet) c.self.view_is kept.served) kept.bytes)
