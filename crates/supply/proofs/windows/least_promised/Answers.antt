use Rattle.std.proofs.Common.{arith}
use Rattle.supply.proofs.PromiseFacts.{reached}
use Rattle.supply.proofs.windows.least_promised.Goals as goal

pub returns-then-whole-limit : goal.returns-then-whole-limit
returns-then-whole-limit c =
    let r = reached c.args.horizon c.args.times.now c.args.v c.requires c.if-v-eq0.false in
    λ k h enough. omega (arith, r.first.least k enough, r.late)

pub returns-then-d-limit : goal.returns-then-d-limit
returns-then-d-limit c =
    let r = reached c.args.horizon c.args.times.now c.args.v c.requires c.if-v-eq0.false in
    (omega arith, r.first)

pub returns-else-d-limit : goal.returns-else-d-limit
returns-else-d-limit c =
    let r = reached c.args.horizon c.args.times.now c.args.v c.requires c.if-v-eq0.false in
    λ k h enough. omega (arith, r.first.least k enough)
