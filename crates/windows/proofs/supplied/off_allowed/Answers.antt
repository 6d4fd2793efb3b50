use Rattle.std.proofs.Common.{◌≡◌, refl, arith}
use Rattle.task_sheet.specs.declared.tasks.SupplySpec.TheVariants.{Promised}
use Rattle.windows.proofs.PromiseWindows.{times_allow, far_allows, time_refutes}
use Rattle.windows.proofs.supplied.off_allowed.Goals as goal

pub returns-then-supplied-i : goal.returns-then-supplied-i
returns-then-supplied-i c =
    let is : Promised c.in-Promised.horizon c.as_slice-time-items.result.now ≡ c.args.sheet.now.supply = cc in (
      (λ allowed. absurd (cc)),
      (λ may. absurd (time_refutes c.args.sheet.now.supply c.in-Promised.horizon c.as_slice-time-items.result.now
          c.args.counts.now c.args.t is c.supply.ensures.valid.supply c.requires c.loop-i.i (omega arith) (omega arith) (omega arith) may)),
    )

pub returns-after-loop-i : goal.returns-after-loop-i
returns-after-loop-i c =
    let is : Promised c.in-Promised.horizon c.as_slice-time-items.result.now ≡ c.args.sheet.now.supply = cc in (
      (λ allowed. times_allow c.args.sheet.now.supply c.in-Promised.horizon c.as_slice-time-items.result.now c.args.counts.now
          c.args.t is c.supply.ensures.valid.supply c.requires (λ k a b near. c.loop-i.invariant k (omega arith) b near)),
      (λ may. refl),
    )

pub returns-then-time-t : goal.returns-then-time-t
returns-then-time-t c =
    let is : Promised c.in-Promised.horizon c.as_slice-time-items.result.now ≡ c.args.sheet.now.supply = cc in (
      (λ allowed. far_allows c.args.sheet.now.supply c.in-Promised.horizon c.as_slice-time-items.result.now c.args.counts.now
          c.args.t is c.supply.ensures.valid.supply c.requires c.loop-i.i c.loop-i.invariant (omega arith)),
      (λ may. refl),
    )
