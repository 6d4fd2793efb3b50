use Rattle.std.proofs.Common.{◌+◌, refl, arith, subst, ℕ}
use Rattle.solver.specs.Groups.{IsBehindTogether}
use Rattle.solver.proofs.GroupFacts.{lags_more}
use Rattle.solver.proofs.groups.single_lags.Goals as goal

pub loop-o-init : goal.loop-o-init
loop-o-init c = record { behind = λ l. omega arith; bound = omega arith }

pub loop-o-preserved : goal.loop-o-preserved
loop-o-preserved c = record {
  behind = lags_more c.args.sheet.now c.args.group.now c.loop-o.o c.loop-o.lags c.single_lag-lags.result (c.loop-o.lags + c.single_lag-lags.result) refl
      c.loop-o.invariant.behind c.single_lag-lags.ensures.behind;
  bound = omega (arith, c.loop-o.invariant.bound, c.single_lag-lags.ensures.bound);
}

pub returns-clause-behind : goal.returns-clause-behind
returns-clause-behind c =
    subst (λ (w : ℕ). IsBehindTogether c.args.sheet.now c.args.group.now w c.loop-o.lags) (omega (arith, c.len-o-end.ensures.len)) c.loop-o.invariant.behind

pub returns-clause-bound : goal.returns-clause-bound
returns-clause-bound c = omega (arith, c.loop-o.invariant.bound, c.len-o-end.ensures.valid.few)
