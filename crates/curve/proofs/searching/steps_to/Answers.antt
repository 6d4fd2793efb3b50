use Rattle.std.proofs.Common.{leb, leb-true, leb-false, arith, rules}
use Rattle.std.proofs.lemmas.List.Sorted.{IsPartitionPoint-from_clause, IsPartitionedBy-leb}
use Rattle.curve.proofs.CurveFacts.{rises_from_test}
use Rattle.curve.proofs.StairFacts.{times_sorted}
use Rattle.curve.proofs.searching.steps_to.Goals as goal

pub returns : goal.returns
returns c =
    let parted = IsPartitionedBy-leb (λ s. s.time) _ c.args.t (times_sorted _ (rises_from_test 0 0 c.args.steps.now c.requires)) in
    let point = IsPartitionPoint-from_clause (λ s. leb s.time c.args.t) _ _ c.partition_point.ensures.partitioned parted (λ a r q k. search rules) in
    record {
      within = c.partition_point.ensures.bound;
      early = λ k d h. leb-true _ _ (point.0 k d (omega arith) h);
      late = λ k d h l. leb-false _ _ (point.1 k d h l);
    }
