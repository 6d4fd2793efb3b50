use Rattle.std.proofs.Common.{◌+◌, ◌-◌, ◌*◌, ◌/◌, ◌<◌, refl, arith}
use Rattle.lists.specs.Limits.{greatest_value}
use Rattle.solver.proofs.LoadFacts.{behind_next, behind_all, line_high}
use Rattle.solver.proofs.load.lag.Goals as goal

pub loop-begun-init : goal.loop-begun-init
loop-begun-init c = record { behind = λ r below within. absurd (omega (arith, below)); bound = omega arith }

pub loop-begun-preserved : goal.loop-begun-preserved
loop-begun-preserved c =
    let valid = c.requires.valid in
    let h = c.horizon-horizon.result in
    let top = c.top-top.result in
    let last = c.min-last.result - 1 in
    let line = (top * last + h - 1) / h in
    let positive : 0 < h = omega (arith, c.horizon-horizon.ensures.horizon, valid.horizon_low) in
    let high = line_high top h last line greatest_value positive (omega (arith, c.min-last.ensures, positive)) refl c.top-top.ensures.bound in
    record {
      behind = behind_next _ h top last line c.horizon-horizon.ensures.horizon c.top-top.ensures.exact refl valid _ _ _ _
          c.loop-begun.invariant.behind c.stair-stair.ensures (omega (arith, c.min-last.ensures)) (omega (arith, c.max-lag.ensures, c.saturating_sub.ensures));
      bound = omega (arith, c.max-lag.ensures, c.saturating_sub.ensures, c.loop-begun.invariant.bound, high);
    }

pub returns-clause-behind : goal.returns-clause-behind
returns-clause-behind c =
    behind_all _ _ _ _ c.horizon-horizon.ensures.horizon (omega (arith, c.loop-begun-test.false)) c.loop-begun.invariant.behind
