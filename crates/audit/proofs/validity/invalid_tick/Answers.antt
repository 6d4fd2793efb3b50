use Rattle.std.proofs.Common.{sym, ◌∙◌, arith, below_more}
use Rattle.std.proofs.lemmas.Bool.{both_ways}
use Rattle.audit.proofs.validity.invalid_tick.Goals as goal

pub loop-t-preserved : goal.loop-t-preserved
loop-t-preserved c = record {
  undone = c.serve.ensures;
  before =
      below_more _ _ c.loop-t.invariant.before (sym c.is_valid.ensures.valid ∙ c.if-not-is_valid.false);
}

pub returns : goal.returns
returns c = λ t b bad. both_ways _ bad (c.loop-t.invariant.before t (omega arith))
