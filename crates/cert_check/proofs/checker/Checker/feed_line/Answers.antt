use Rattle.std.proofs.Common.{◌≡◌, ◌++◌, take, subst, sym, rules}
use Rattle.certificate.proofs.FeedFacts.{line_few}
use Rattle.cert_check.specs.Standing.{IsAt}
use Rattle.cert_check.proofs.CheckerFacts.{bounds_written, line_at}
use Rattle.cert_check.proofs.StandingFacts.{line_fits, line_judged}
use Rattle.cert_check.proofs.checker.Checker.feed_line.Goals as goal

pub note_line-requires-clause-fits : goal.note_line-requires-clause-fits
note_line-requires-clause-fits g c =
    let kept = c.self.invariant in
    let fed = c.feed_line-count in
    line_fits _ _ _ _ _ _ _ _ kept.bytes kept.fed (take fed.result.0 c.args.bytes.now) fed.result.1 (fed.ensures.bad kept.bytes kept.fed.lines_are)
    (λ more cert p. fed.ensures.says kept.bytes more cert kept.fed.lines_are p)

pub invariant_of-self : goal.invariant_of-self
invariant_of-self g c =
    let kept = c.self.invariant in
    let fed = c.feed_line-count in
    let t = take fed.result.0 c.args.bytes.now in
    let whole : c.deref_mut.result.now ≡ c.self.inside.bounds.items = search rules in
    let noted = bounds_written c.self.inside.bounds c.deref_mut.result.now c.note_bound.new.bounds fed.result.1 whole c.note_bound.ensures in
    record {
      bytes = kept.bytes ++ t;
      fed = line_judged _ _ _ _ _ _ _ _ kept.bytes kept.fed t fed.result.1 fed.new.self c.note_line.new.judged _
          (fed.ensures.stands kept.bytes kept.fed.lines_are) (line_few c.args.bytes.now fed.result.0 fed.ensures.first)
          (λ more cert p. fed.ensures.says kept.bytes more cert kept.fed.lines_are p) c.note_line.ensures.judged noted;
      served = kept.served;
      ready = c.note_line.ensures.ready;
    }

pub returns-clause-stands : goal.returns-clause-stands
returns-clause-stands g c = λ made b h.
    let at = subst (λ v. IsAt g.P.Policy.meaning g.M.Preemption.cuts g.S.Supply.sbf v made b) (sym c.self.view_is) h in
    let fed = c.feed_line-count in
    let n = fed.result.0 in
    let t = take n c.args.bytes.now in
    let whole : c.deref_mut.result.now ≡ c.self.inside.bounds.items = search rules in
    let noted = bounds_written c.self.inside.bounds c.deref_mut.result.now c.note_bound.new.bounds fed.result.1 whole c.note_bound.ensures in
    line_at g.P.Policy.meaning g.M.Preemption.cuts g.S.Supply.sbf _ made b t fed.result.1 fed.new.self c.note_line.new.judged _ at
    (fed.ensures.stands b at.fed.lines_are) (line_few c.args.bytes.now n fed.ensures.first)
    (λ more cert p. fed.ensures.says b more cert at.fed.lines_are p) c.note_line.ensures.judged noted
