use Rattle.std.proofs.Common.{◌-◌, ◌∙◌, ap, arith}
use Rattle.certificate.specs.Text.{point_line}
use Rattle.certificate.specs.Parsing.{with_point}
use Rattle.certificate.specs.declared.cert.Entry.{Entry}
use Rattle.certificate.proofs.StepFacts.{add_point-there}
use Rattle.certificate.proofs.reading.add_point.Goals as goal

pub returns : goal.returns
returns c =
    let l = point_line c.args.point c.args.terms in
    add_point-there c.args.entries.now.items c.index_mut.result.now c.push_point.new.entry (c.len-count.result - 1) l
    (omega (arith, c.len-count.ensures, c.if-count-eq0.false))
    (c.in_ok-push_point.ensures ∙ ap (λ (e : Entry). with_point e l) c.index_mut.ensures.value)
