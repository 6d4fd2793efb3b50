use Rattle.std.proofs.Common.{◌≡◌, ◌≤◌, ◌+◌, ◌-◌, get_or, refl, subst, inl, inr, arith}
use Rattle.std.proofs.lemmas.Bool.{cases_lt}
use Rattle.windows.specs.Distances.{distance_at}
use Rattle.windows.proofs.DistanceFacts.{none_looked, none_further, some_pair}
use Rattle.windows.proofs.crowds.has_crowded_pair.Goals as goal

pub returns-then-distance-j : goal.returns-then-distance-j
returns-then-distance-j c = (
  (λ crowded. absurd (cc)),
  (λ pair. absurd (none_further c.args.curve.now c.args.arrivals.now c.requires.ascending c.requires.early c.args.needed.now
      c.requires.needed c.args.j c.requires.listed c.requires.free c.loop-n.n c.loop-n-test.true c.loop-n.invariant c.if-distance-j.true pair.0 pair.1)),
)

pub returns-then-end-arrivals : goal.returns-then-end-arrivals
returns-then-end-arrivals c = (
  (λ crowded. some_pair c.args.curve.now c.args.arrivals.now c.requires.ascending c.requires.early c.args.needed.now
      c.requires.needed c.args.j c.requires.listed c.requires.free c.loop-n.n c.loop-n-test.true c.if-distance-j.false c.if-end-arrivals.true),
  (λ pair. refl),
)

pub loop-n-preserved : goal.loop-n-preserved
loop-n-preserved c =
    let apart = (distance_at c.args.needed.now c.loop-n.n).apart in
    let near : apart ≤ c.args.j = c.if-distance-j.false in
    let far : (distance_at c.args.needed.now c.loop-n.n).span ≤ get_or c.args.arrivals.now c.args.j 0 + 1 - get_or
    c.args.arrivals.now (c.args.j - apart) 0 = c.if-end-arrivals.false in
    let here : (distance_at c.args.needed.now c.loop-n.n).span + get_or c.args.arrivals.now
    (c.args.j - apart) 0 ≤ get_or c.args.arrivals.now c.args.j 0 + 1 =
    omega (arith, far, c.requires.ascending (c.args.j - apart) c.args.j 0 (omega arith) c.requires.listed) in
    λ i b l m. elim (cases_lt i c.loop-n.n) [
      | inl before ↦ c.loop-n.invariant i before l m
      | inr last ↦
          let e : c.loop-n.n ≡ i = omega arith in
          subst (λ w. (distance_at c.args.needed.now w).span + get_or c.args.arrivals.now
          (c.args.j - (distance_at c.args.needed.now w).apart) 0 ≤ get_or c.args.arrivals.now c.args.j 0 + 1) e here
    ]

pub returns : goal.returns
returns c = (
  (λ crowded. absurd (cc)),
  (λ pair. absurd (none_looked c.args.curve.now c.args.arrivals.now c.requires.ascending c.requires.early c.args.needed.now
      c.requires.needed c.args.j c.requires.listed c.requires.free (λ i b l near. c.loop-n.invariant i (omega arith) l near) pair.0 pair.1)),
)
