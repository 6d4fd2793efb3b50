use Rattle.std.proofs.Common.{◌≡◌, ◌∙◌, ℕ, Bool, true, arith}
use Rattle.std.proofs.lemmas.List.{length-set}
use Rattle.demand.specs.Demand.{class_part_of}
use Rattle.solver.specs.Groups.{CountsWhole}
use Rattle.solver.proofs.GroupFacts.{set_next}
use Rattle.solver.proofs.together.class_marks.Goals as goal

pub loop-o-preserved : goal.loop-o-preserved
loop-o-preserved g c =
    record {
      set = set_next (λ (o : ℕ) (m : Bool). m ≡ true → CountsWhole (class_part_of g.P.Policy.meaning c.args.sheet.now c.args.i) c.args.sheet.now 4000000000 o)
          c.loop-o.o c.loop-o.marks c.counts_in_class.result (omega (arith, c.loop-o.invariant.length, c.len-o-end.ensures.valid.few))
          c.counts_in_class.ensures c.loop-o.invariant.set;
      length = length-set c.loop-o.marks c.loop-o.o c.counts_in_class.result ∙ c.loop-o.invariant.length;
    }
