use Rattle.std.proofs.Common.{sym, subst, arith}
use Rattle.supply.specs.Promises.{sbf_of}
use Rattle.schedule_laws.specs.Compliance.{IsCompliant}
use Rattle.schedule_laws.proofs.TestFacts.{valid_to}
use Rattle.audit.proofs.ReadFacts.{small_from}
use Rattle.audit.proofs.VerdictFacts.{complies_from, not_from, positive_from, releases_from}
use Rattle.audit.proofs.judging.audit.Goals as goal

pub first_broken-requires-clause-small : goal.first_broken-requires-clause-small
first_broken-requires-clause-small g c = small_from c.args.run.now c.requires.within

pub seen_tasks-requires-clause-small : goal.seen_tasks-requires-clause-small
seen_tasks-requires-clause-small g c = small_from c.args.run.now c.requires.within

pub seen_tasks-requires-clause-valid : goal.seen_tasks-requires-clause-valid
seen_tasks-requires-clause-valid g c =
    let compliant = complies_from g.P.Policy.meaning g.M.Preemption.cuts
    (sbf_of c.args.sheet.now.supply) c.args.sheet.now c.args.run.now c.in_ok-rule.field-0 c.in_ok-rule.ensures c.in-None.is c.len-tasks.ensures.valid in
    λ t b. valid_to c.args.run.now t (λ k is. compliant.valid.ticks t k b is)

pub seen_tasks-requires-clause-costs : goal.seen_tasks-requires-clause-costs
seen_tasks-requires-clause-costs g c =
    let compliant = complies_from g.P.Policy.meaning g.M.Preemption.cuts
    (sbf_of c.args.sheet.now.supply) c.args.sheet.now c.args.run.now c.in_ok-rule.field-0 c.in_ok-rule.ensures c.in-None.is c.len-tasks.ensures.valid in
    positive_from g.M.Preemption.cuts c.args.sheet.now c.args.run.now g.met.M.Preemption.lawful c.len-tasks.ensures.valid c.requires.served compliant.valid.jobs

pub seen_tasks-requires-clause-released : goal.seen_tasks-requires-clause-released
seen_tasks-requires-clause-released g c =
    let compliant = complies_from g.P.Policy.meaning g.M.Preemption.cuts
    (sbf_of c.args.sheet.now.supply) c.args.sheet.now c.args.run.now c.in_ok-rule.field-0 c.in_ok-rule.ensures c.in-None.is c.len-tasks.ensures.valid in
    releases_from c.args.sheet.now c.args.run.now compliant.valid.releases

pub seen_tasks-requires-clause-below : goal.seen_tasks-requires-clause-below
seen_tasks-requires-clause-below g c =
    let compliant = complies_from g.P.Policy.meaning g.M.Preemption.cuts
    (sbf_of c.args.sheet.now.supply) c.args.sheet.now c.args.run.now c.in_ok-rule.field-0 c.in_ok-rule.ensures c.in-None.is c.len-tasks.ensures.valid in
    λ k b. omega (arith, (compliant.valid.jobs k b).task, c.len-tasks.ensures)

pub returns-in-Some-clause-compliance : goal.returns-in-Some-clause-compliance
returns-in-Some-clause-compliance g c = λ compliant.
    not_from g.P.Policy.meaning g.M.Preemption.cuts (sbf_of c.args.sheet.now.supply) c.args.sheet.now c.args.run.now
    c.in_ok-rule.field-0 c.in-Some.field-0 c.in_ok-rule.ensures c.in-Some.is c.len-tasks.ensures.valid
    (subst (λ sbf. IsCompliant g.P.Policy.meaning g.M.Preemption.cuts sbf c.args.sheet.now c.args.run.now) c.requires.stated compliant)

pub returns-in_ok-seen-in-None-clause-compliance : goal.returns-in_ok-seen-in-None-clause-compliance
returns-in_ok-seen-in-None-clause-compliance g c =
    subst (λ sbf. IsCompliant g.P.Policy.meaning g.M.Preemption.cuts sbf c.args.sheet.now c.args.run.now) (sym c.requires.stated)
    (complies_from g.P.Policy.meaning g.M.Preemption.cuts (sbf_of c.args.sheet.now.supply) c.args.sheet.now c.args.run.now
    c.in_ok-rule.field-0 c.in_ok-rule.ensures c.in-None.is c.len-tasks.ensures.valid)
