use Rattle.std.proofs.Common.{ℕ, ◌+◌, subst, sym, arith}
use Rattle.curve_infer.specs.Curves.{IsLeastLength}
use Rattle.curve_infer.proofs.MostFacts.{length_is, gap_high}
use Rattle.curve_infer.proofs.inferring.least_length.Goals as goal

pub overflow_add-result : goal.overflow_add-result
overflow_add-result c = omega (arith, c.least_gap.ensures, gap_high c.args.times.now c.requires.trace c.args.n c.requires.some c.requires.few)

pub returns : goal.returns
returns c = subst (λ (w : ℕ). IsLeastLength c.args.times.now c.args.n (w + 1)) (sym c.least_gap.ensures)
    (length_is c.args.times.now c.requires.trace c.args.n c.requires.some c.requires.few)
