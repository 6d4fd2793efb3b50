use Rattle.std.proofs.Common.{◌≡◌, ◌<◌, ◌≤◌, ◌+◌, ◌-◌, suc, get_or, refl, sym, ◌∙◌, subst, inl, inr, arith}
use Rattle.std.proofs.lemmas.Bool.{cases_lt}
use Rattle.task_sheet.specs.declared.tasks.SupplySpec.TheVariants.{Promised}
use Rattle.windows.specs.Times.{time_at}
use Rattle.windows.proofs.TimeFacts.{needed_allow, further_allows, needed_refutes}
use Rattle.windows.proofs.supplied.off_allowed_by.Goals as goal

pub returns-then-time-t : goal.returns-then-time-t
returns-then-time-t c =
    let is : Promised c.in-Promised.horizon c.in-Promised.times ≡ c.args.sheet.now.supply = sym c.in-Promised.is ∙ c.supply.ensures.supply in (
      (λ allowed. further_allows c.args.sheet.now.supply c.in-Promised.horizon c.in-Promised.times c.args.counts.now c.args.t is
          c.supply.ensures.valid.supply c.requires.counts c.args.needed.now c.requires.needed c.loop-i.i c.loop-i-test.true
          c.loop-i.invariant c.if-time-t.true),
      (λ may. refl),
    )

pub returns-then-last-counts : goal.returns-then-last-counts
returns-then-last-counts c =
    let is : Promised c.in-Promised.horizon c.in-Promised.times ≡ c.args.sheet.now.supply = sym c.in-Promised.is ∙ c.supply.ensures.supply in
    let few : get_or c.args.counts.now c.args.t 0 - get_or c.args.counts.now
    (c.args.t + 1 - (time_at c.args.needed.now c.loop-i.i).time) 0 ≤ (time_at c.args.needed.now c.loop-i.i).before = c.if-last-counts.true in (
      (λ allowed. absurd (cc)),
      (λ may. absurd (needed_refutes c.args.sheet.now.supply c.in-Promised.horizon c.in-Promised.times c.args.counts.now c.args.t
          is c.supply.ensures.valid.supply c.requires.counts c.args.needed.now c.requires.needed c.loop-i.i c.loop-i-test.true
          c.if-time-t.false (omega (arith, few)) may)),
    )

pub loop-i-preserved : goal.loop-i-preserved
loop-i-preserved c =
    let more : (time_at c.args.needed.now c.loop-i.i).before < get_or c.args.counts.now c.args.t 0 - get_or c.args.counts.now
    (c.args.t + 1 - (time_at c.args.needed.now c.loop-i.i).time) 0 = c.if-last-counts.false in
    λ i b l near. elim (cases_lt i c.loop-i.i) [
      | inl before ↦ c.loop-i.invariant i before l near
      | inr last ↦
          let e : c.loop-i.i ≡ i = omega arith in
          subst (λ w. suc (time_at c.args.needed.now w).before + get_or c.args.counts.now
          (c.args.t + 1 - (time_at c.args.needed.now w).time) 0 ≤ get_or c.args.counts.now c.args.t 0) e (omega (arith, more))
    ]

pub returns : goal.returns
returns c =
    let is : Promised c.in-Promised.horizon c.in-Promised.times ≡ c.args.sheet.now.supply = sym c.in-Promised.is ∙ c.supply.ensures.supply in (
      (λ allowed. needed_allow c.args.sheet.now.supply c.in-Promised.horizon c.in-Promised.times c.args.counts.now c.args.t is
          c.supply.ensures.valid.supply c.requires.counts c.args.needed.now c.requires.needed (λ k a b near. c.loop-i.invariant k (omega arith) b near)),
      (λ may. refl),
    )
