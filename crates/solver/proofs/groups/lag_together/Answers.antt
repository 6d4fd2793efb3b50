use Rattle.std.proofs.Common.{◌+◌, ◌-◌, ◌*◌, ◌/◌, refl, arith, length}
use Rattle.solver.specs.Loads.{scale}
use Rattle.solver.proofs.GroupFacts.{behind_next, behind_to, behind_all_along}
use Rattle.solver.proofs.groups.lag_together.Goals as goal

pub loop-begun-init : goal.loop-begun-init
loop-begun-init c l below = absurd (omega (arith, below))

pub loop-begun-preserved : goal.loop-begun-preserved
loop-begun-preserved c =
    let rise = c.rise_together-rise.result in
    let stretch = c.stretch_together-stretch.result in
    let last = stretch.until - 1 in
    behind_next c.args.sheet.now c.args.group.now (length c.args.sheet.now.tasks) c.loop-begun.begun c.loop-begun.lag stretch.until last
    ((rise.rate * last + rise.fixed + scale - 1) / scale) stretch.asked rise.fixed rise.rate c.max-lag.result
    c.rise_together-rise.ensures.rises c.stretch_together-stretch.ensures.asked refl refl
    (omega (arith, c.max-lag.ensures, c.saturating_sub.ensures)) c.loop-begun.invariant

pub returns : goal.returns
returns c =
    let n = length c.args.sheet.now.tasks in
    behind_all_along c.args.sheet.now c.args.group.now c.args.common c.loop-begun.lag c.len-valid.ensures.valid c.requires.low c.requires.alike
    (behind_to c.args.sheet.now c.args.group.now n c.loop-begun.begun c.args.common c.loop-begun.lag (omega (arith, c.loop-begun-test.false)) c.loop-begun.invariant)
