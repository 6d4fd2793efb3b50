use Rattle.std.proofs.Common.{sym, ◌∙◌, ap, subst}
use Rattle.std.specs.List.Sorted.{IsNonDecreasing}
use Rattle.std.proofs.lemmas.List.{append-nil}
use Rattle.simulator.specs.Gaps.{earliest_by, AreNear}
use Rattle.simulator.proofs.gaps.earliest.Goals as goal

pub earliest_after-requires-clause-near : goal.earliest_after-requires-clause-near
earliest_after-requires-clause-near c = subst AreNear (sym (append-nil c.args.arrivals.now)) c.requires.near

pub earliest_after-requires-clause-ascending : goal.earliest_after-requires-clause-ascending
earliest_after-requires-clause-ascending c = subst IsNonDecreasing (sym (append-nil c.args.arrivals.now)) c.requires.ascending

pub returns : goal.returns
returns c = c.earliest_after.ensures ∙ ap (earliest_by c.args.gaps.now) (append-nil c.args.arrivals.now)
