use Rattle.sheet_text.proofs.Loop.{Stands}
use Rattle.sheet_text.proofs.tasks.tasks_of.Given as goal

abbrev pub invariant-items : goal.invariant-items
invariant-items l = Stands l.policy l.tasks.items l.names.keys l.item-index l.items
