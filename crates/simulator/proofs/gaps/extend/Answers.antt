use Rattle.std.proofs.Common.{◌≡◌, ℕ, ◌-◌, ◌+◌, List, length, refl, ◌∙◌, ap, rules, arith, ltb}
use Rattle.simulator.specs.declared.gaps.Gap.{Gap}
use Rattle.simulator.specs.Gaps.{earliest_by}
use Rattle.simulator.proofs.GapFacts.{extended}
use Rattle.simulator.proofs.gaps.extend.Goals as goal

pub returns : goal.returns
returns c =
    let g = c.args.gaps.now in
    let len : c.len-count.result ≡ length g.densest.items = search rules in
    let is : c.earliest-implied.result ≡ earliest_by g.gaps.items g.densest.items =
    c.earliest-implied.ensures ∙ (ap (λ (l : List Gap). earliest_by l c.deref-2.result.now) c.deref.ensures.value
    ∙ ap (λ (l : List ℕ). earliest_by g.gaps.items l) c.deref-2.ensures.value) in
    extended c.args.curve.now c.horizon-horizon.ensures.valid g.gaps.items g.densest.items g.window c.requires
    (ltb c.earliest-implied.result c.max-distance.result) c.earliest-implied.result c.max-distance.result c.in-Some.window c.len-count.result
    (c.len-count.result - 1 + 1) c.add_gap.new.gaps.items c.push.new.self.items is c.in-Some.ensures (omega (arith, len, c.requires.some))
    c.max-distance.ensures (omega arith) refl len c.in_ok-add_gap.ensures c.in_ok-push.ensures.items
