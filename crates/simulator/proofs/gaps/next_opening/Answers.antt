use Rattle.std.proofs.Common.{◌≡◌, List, ◌∙◌, ap, arith}
use Rattle.simulator.specs.declared.gaps.Gap.{Gap}
use Rattle.simulator.specs.Gaps.{earliest_by}
use Rattle.simulator.proofs.GapFacts.{earliest_shuts}
use Rattle.simulator.proofs.gaps.next_opening.Goals as goal

pub returns : goal.returns
returns c =
    let g = c.args.gaps.now in
    let is : c.earliest.result ≡ earliest_by g.gaps.items c.args.arrivals.now =
    c.earliest.ensures ∙ ap (λ (l : List Gap). earliest_by l c.args.arrivals.now) c.deref.ensures.value in
    λ v h l. earliest_shuts c.args.curve.now g.gaps.items g.densest.items g.window c.requires.gaps c.args.arrivals.now c.args.t
    c.requires.ascending c.requires.past v h (omega (arith, l, is))
