use Rattle.std.proofs.Common.{◌∙◌, sym}
use Rattle.solver.proofs.GroupFacts.{class_whole}
use Rattle.solver.proofs.together.counts_in_class.Goals as goal

pub returns : goal.returns
returns g c is = class_whole g.P.Policy.meaning c.args.sheet.now c.args.i c.args.o 4000000000 (sym c.class.ensures ∙ is)
