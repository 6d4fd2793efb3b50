use Rattle.std.proofs.Common.{◌≡◌, get_or, ap, inl, inr, arith}
use Rattle.std.proofs.lemmas.Bool.{cases_lt}
use Rattle.simulator.proofs.openings.least.Goals as goal

pub loop-i-preserved : goal.loop-i-preserved
loop-i-preserved c = λ k h. elim (cases_lt k c.loop-i.i) [
  | inl l ↦ omega (arith, c.loop-i.invariant k l, c.min-first.ensures)
  | inr l ↦
      let e : k ≡ c.loop-i.i = omega (arith, h, l) in
      omega (arith, c.min-first.ensures, ap (λ v. get_or c.args.ticks.now v 0) e)
]
