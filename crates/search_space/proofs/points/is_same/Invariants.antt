use Rattle.std.proofs.Common.{◌≡◌, ◌==◌, true}
use Rattle.lists.specs.Firsts.{all_below}
use Rattle.policy.specs.Offsets.{compared_of}
use Rattle.search_space.proofs.points.is_same.Given as goal

abbrev pub invariant-loop-o : goal.invariant-loop-o
invariant-loop-o g l = let number = compared_of g.P.Policy.meaning l.sheet l.i in all_below (λ o. number l.a o == number l.b o) l.o ≡ true
