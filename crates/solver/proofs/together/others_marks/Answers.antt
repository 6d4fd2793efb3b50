use Rattle.std.proofs.Common.{◌≡◌, ◌∙◌, ℕ, Bool, true, arith}
use Rattle.std.proofs.lemmas.List.{length-set}
use Rattle.demand.specs.Demand.{other_of}
use Rattle.solver.specs.Groups.{CountsWhole}
use Rattle.solver.proofs.GroupFacts.{set_next}
use Rattle.solver.proofs.together.others_marks.Goals as goal

pub loop-o-preserved : goal.loop-o-preserved
loop-o-preserved g c =
    record {
      set = set_next (λ (o : ℕ) (m : Bool). m ≡ true → CountsWhole (other_of g.P.Policy.meaning c.args.sheet.now c.args.i c.args.a) c.args.sheet.now c.args.cut o)
          c.loop-o.o c.loop-o.marks c.counts_whole.result (omega (arith, c.loop-o.invariant.length, c.len-o-end.ensures.valid.few))
          c.counts_whole.ensures c.loop-o.invariant.set;
      length = length-set c.loop-o.marks c.loop-o.o c.counts_whole.result ∙ c.loop-o.invariant.length;
    }
