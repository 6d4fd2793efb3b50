use Rattle.assign.proofs.FillFacts.{Searching}
use Rattle.assign.proofs.filling.fill_level.Given as goal

abbrev pub invariant-loop-i : goal.invariant-loop-i
invariant-loop-i g l = Searching g.M.Preemption.cuts (g.S.Supply.sbf l.supply) l.sheet l.horizon l.level l.i l.trial l.places
