use Rattle.std.proofs.Common.{◌==◌, length, sym, arith}
use Rattle.std.proofs.lemmas.Bool.{ne_eqb}
use Rattle.lists.proofs.FirstFacts.{all_broken}
use Rattle.policy.specs.Offsets.{compared_of}
use Rattle.search_space.proofs.points.is_same.Goals as goal

pub returns-then-compared : goal.returns-then-compared
returns-then-compared g c =
    let number = compared_of g.P.Policy.meaning c.args.sheet.now c.args.i in
    sym (all_broken (λ o. number c.args.a o == number c.args.b o) (length c.args.sheet.now.tasks) c.loop-o.o (omega arith)
    (ne_eqb _ _ (λ e. c.if-compared.true (omega (arith, e)))))
