use Rattle.std.proofs.Common.{◌≡◌, ℕ, subst, inl, inr, arith}
use Rattle.std.proofs.lemmas.Bool.{cases_lt, OnTrue_at}
use Rattle.windows.specs.Crowds.{IsCrowdedPair}
use Rattle.windows.proofs.PairFacts.{tick_none, tick_some}
use Rattle.windows.proofs.crowds.first_crowded_tick.Goals as goal

pub returns-then-keep_all : goal.returns-then-keep_all
returns-then-keep_all c =
    tick_none c.args.curve.now c.requires.curve c.args.arrivals.now c.requires.ascending
    (λ j i below pair. OnTrue_at c.if-keep_all.true c.keep_all.ensures j i below pair)

pub returns-then-has_crowded_pair : goal.returns-then-has_crowded_pair
returns-then-has_crowded_pair c =
    let pair = c.has_crowded_pair.ensures.0 c.if-has_crowded_pair.true in
    tick_some c.args.curve.now c.requires.curve c.args.arrivals.now c.requires.ascending c.loop-j.j pair.0 c.loop-j-test.true c.loop-j.invariant pair.1

pub loop-j-preserved : goal.loop-j-preserved
loop-j-preserved c = λ k i below pair. elim (cases_lt k c.loop-j.j) [
  | inl l ↦ c.loop-j.invariant k i l pair
  | inr l ↦
      let e : k ≡ c.loop-j.j = omega arith in
      let found = c.has_crowded_pair.ensures.1 (i, subst (λ (j : ℕ). IsCrowdedPair c.args.curve.now c.args.arrivals.now j i) e pair) in
      absurd (cc)
]

pub returns : goal.returns
returns c = tick_none c.args.curve.now c.requires.curve c.args.arrivals.now c.requires.ascending (λ j i below. c.loop-j.invariant j i (omega arith))
