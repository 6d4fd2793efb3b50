use Rattle.std.proofs.Common.{◌∙◌, ℕ, ◌+◌, ◌*◌, ◌/◌, length, ap, arith}
use Rattle.supply.proofs.PromiseFacts.{promised_counts, product_le}
use Rattle.supply.proofs.windows.promised_in.Goals as goal

pub overflow_mul-result : goal.overflow_mul-result
overflow_mul-result c = omega (arith, product_le c.args.horizon c.args.times.now c.args.d c.requires)

pub overflow_add-result : goal.overflow_add-result
overflow_add-result c = omega (arith, product_le c.args.horizon c.args.times.now c.args.d c.requires, c.count_up_to.ensures)

pub returns : goal.returns
returns c =
    ap (λ (n : ℕ). c.args.d / c.args.horizon * length c.args.times.now + n) c.count_up_to.ensures
    ∙ promised_counts c.args.horizon c.args.times.now c.args.d c.requires
