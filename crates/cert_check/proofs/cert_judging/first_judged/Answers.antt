use Rattle.std.proofs.Common.{◌∙◌, ap, length}
use Rattle.certificate.specs.declared.step.LineStep.TheVariants as says
use Rattle.cert_check.specs.declared.judged.Judged.{Judged}
use Rattle.cert_check.specs.JudgedLines.{judge_line}
use Rattle.cert_check.proofs.CertFacts.{last_told}
use Rattle.cert_check.proofs.cert_judging.first_judged.Goals as goal

pub returns : goal.returns
returns g c =
    let p = g.P.Policy.meaning in
    let m = g.M.Preemption.cuts in
    let sbf = g.S.Supply.sbf c.args.supply.now in
    let line = judge_line p m sbf c.args.sheet.now c.args.deadlines in
    ap (λ (j : Judged). j.failed) c.line_judged.ensures.judged
    ∙ last_told p m sbf c.args.sheet.now c.args.deadlines c.args.cert.now c.as_slice-entries.result.now c.line_judged-counted.result c.entries_judged-judged.result
    c.as_slice-entries.ensures
    (c.line_judged-counted.ensures.judged ∙ ap (λ (j : Judged). line j (says.Tasks (length c.as_slice-entries.result.now))) c.nothing_judged.ensures)
    c.entries_judged-judged.ensures.judged
