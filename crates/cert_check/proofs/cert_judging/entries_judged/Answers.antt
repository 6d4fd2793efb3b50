use Rattle.std.proofs.Common.{rules, ◌≡◌, ◌<◌, ◌+◌, ◌∙◌, ◌∷◌, drop, fold, get_or, length, sym, ap}
use Rattle.certificate.specs.declared.cert.Entry.{Entry}
use Rattle.certificate.specs.declared.step.LineStep.TheVariants as says
use Rattle.certificate.specs.Steps.{points_steps, entries_steps}
use Rattle.cert_check.specs.declared.judged.Judged.{Judged}
use Rattle.cert_check.specs.JudgedLines.{judge_line}
use Rattle.cert_check.proofs.CertFacts.{entries_on, kept}
use Rattle.cert_check.proofs.cert_judging.entries_judged.Goals as goal

pub loop-i-preserved : goal.loop-i-preserved
loop-i-preserved g c =
    let p = g.P.Policy.meaning in
    let m = g.M.Preemption.cuts in
    let sbf = g.S.Supply.sbf c.args.supply.now in
    let line = judge_line p m sbf c.args.sheet.now c.args.deadlines in
    let es = c.args.entries.now in
    let k = c.loop-i.i in
    let e : Entry = c.index-entries-i.result in
    let here : k < length es = c.loop-i-test.true in
    let same : e ≡ get_or es k e = search rules in
    record {
      rest = ap (λ (j : Judged). fold line j (entries_steps (k + 1) (drop (k + 1) es))) c.entry_judged-judged.ensures.judged
          ∙ entries_on p m sbf c.args.sheet.now c.args.deadlines es k c.loop-i.judged _ c.loop-i.invariant.rest e here same;
      ready = c.entry_judged-judged.ensures.ready;
      keeps = λ none.
          c.loop-i.invariant.keeps (kept p m sbf c.args.sheet.now c.args.deadlines c.loop-i.judged
          (says.Entry k e.window e.bound (length e.points) ∷ points_steps e)
          (ap (λ (j : Judged). j.failed) (sym c.entry_judged-judged.ensures.judged) ∙ none));
    }
