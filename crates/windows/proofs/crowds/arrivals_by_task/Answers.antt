use Rattle.std.proofs.Common.{ℕ, subst, arith}
use Rattle.std.specs.Global.{Vec}
use Rattle.std.specs.List.Sorted.{IsPermutation}
use Rattle.std.proofs.lemmas.List.{length-set}
use Rattle.std.proofs.lemmas.List.Sorted.{IsNonDecreasingBy-from_sort}
use Rattle.windows.proofs.ListedFacts.{half_more}
use Rattle.windows.proofs.crowds.arrivals_by_task.Goals as goal

pub loop-o-preserved : goal.loop-o-preserved
loop-o-preserved c =
    let sorted = c.sort_unstable.new.self in
    record {
      count = omega (arith, length-set c.loop-o.lists.items c.loop-o.o sorted, c.loop-o.invariant.count);
      half = half_more c.args.run.now c.loop-o.o c.loop-o.lists.items sorted c.index_mut.result.now
          (omega (arith, c.loop-o-test.true, c.len-o-end.ensures, c.in_ok-lists.ensures.count, c.loop-o.invariant.count)) c.loop-o.invariant.half
          (subst (λ (v : Vec ℕ). IsPermutation v.items sorted.items) c.index_mut.ensures.value c.sort_unstable.ensures.permutation)
          (IsNonDecreasingBy-from_sort (λ x. x) sorted.items c.sort_unstable.ensures.sorted);
    }

pub returns-clause-sorted : goal.returns-clause-sorted
returns-clause-sorted c = λ o d l h.
    c.loop-o.invariant.half.sorted o d
    (omega (arith, c.loop-o-test.false, c.len-o-end.ensures, c.in_ok-lists.ensures.count, c.loop-o.invariant.count)) h
