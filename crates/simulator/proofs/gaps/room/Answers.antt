use Rattle.std.proofs.Common.{◌≡◌, List, length, sym, ◌∙◌, ap, subst, inl, inr, rules, arith}
use Rattle.std.proofs.lemmas.Bool.{cases_lt}
use Rattle.simulator.specs.declared.gaps.Gap.{Gap}
use Rattle.simulator.specs.Gaps.{earliest_by, with_more}
use Rattle.simulator.proofs.MoreFacts.{more_near, more_sorted}
use Rattle.simulator.proofs.RoomFacts.{LetsCome, room_is}
use Rattle.simulator.proofs.gaps.room.Goals as goal

pub earliest_after-requires-clause-near : goal.earliest_after-requires-clause-near
earliest_after-requires-clause-near c =
    more_near c.args.arrivals.now c.loop-n.n c.args.t (λ i b. omega (arith, c.requires.past.before i b)) (omega arith)

pub earliest_after-requires-clause-ascending : goal.earliest_after-requires-clause-ascending
earliest_after-requires-clause-ascending c =
    more_sorted c.args.arrivals.now c.loop-n.n c.args.t c.requires.past.ascending (λ i b. omega (arith, c.requires.past.before i b))

pub loop-n-init : goal.loop-n-init
loop-n-init c = λ m b. absurd (omega (arith, b))

pub loop-n-preserved : goal.loop-n-preserved
loop-n-preserved c =
    let g = c.args.gaps.now in
    let is : c.earliest_after.result ≡ earliest_by g.gaps.items (with_more c.args.arrivals.now c.loop-n.n c.args.t) =
    c.earliest_after.ensures ∙ ap (λ (l : List Gap). earliest_by l (with_more c.args.arrivals.now c.loop-n.n c.args.t)) c.deref.ensures.value in
    let len : c.len.result ≡ length g.densest.items = search rules in
    λ m b. elim (cases_lt m c.loop-n.n) [
      | inl l ↦ c.loop-n.invariant m l
      | inr l ↦
          let e : m ≡ c.loop-n.n = omega (arith, b, l) in
          subst (LetsCome g.gaps.items g.densest.items c.args.arrivals.now c.args.t) (sym e) (omega (arith, is), omega (arith, len))
    ]

pub returns-then-t-earliest_after : goal.returns-then-t-earliest_after
returns-then-t-earliest_after c =
    let g = c.args.gaps.now in
    let is : c.earliest_after.result ≡ earliest_by g.gaps.items (with_more c.args.arrivals.now c.loop-n.n c.args.t) =
    c.earliest_after.ensures ∙ ap (λ (l : List Gap). earliest_by l (with_more c.args.arrivals.now c.loop-n.n c.args.t)) c.deref.ensures.value in
    room_is c.args.curve.now c.horizon-horizon.ensures.valid g.gaps.items g.densest.items g.window c.requires.gaps
    c.args.arrivals.now c.args.t c.requires.past c.loop-n.n (omega (arith, c.at-most.ensures.alpha)) c.loop-n.invariant (inr (omega (arith, is)))

pub returns : goal.returns
returns c =
    let g = c.args.gaps.now in
    room_is c.args.curve.now c.horizon-horizon.ensures.valid g.gaps.items g.densest.items g.window c.requires.gaps
    c.args.arrivals.now c.args.t c.requires.past c.at-most.result (omega (arith, c.at-most.ensures.alpha))
    (λ m h. c.loop-n.invariant m (omega (arith, h))) (inl c.at-most.ensures.alpha)
