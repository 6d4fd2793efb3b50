use Rattle.std.proofs.Common.{◌≡◌, None}
use Rattle.conditions.specs.Conditions.{tasks_failed_of}
use Rattle.conditions.proofs.certs.first_failed.Given as goal

abbrev pub invariant-loop-i : goal.invariant-loop-i
invariant-loop-i g l = tasks_failed_of g.P.Policy.meaning g.M.Preemption.cuts (g.S.Supply.sbf l.supply) l.sheet l.deadlines l.cert l.i ≡ None
