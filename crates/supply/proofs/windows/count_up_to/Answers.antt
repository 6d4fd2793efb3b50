use Rattle.std.proofs.Common.{sym, leb, leb-true, leb-false, arith, rules}
use Rattle.std.proofs.lemmas.List.Sorted.{IsPartitionPoint-from_clause, IsPartitionedBy-leb}
use Rattle.supply.proofs.PromiseFacts.{times_sorted, count_split}
use Rattle.supply.proofs.windows.count_up_to.Goals as goal

pub returns : goal.returns
returns c =
    let parted = IsPartitionedBy-leb (λ t. t) _ c.args.r (times_sorted _ c.requires) in
    let point = IsPartitionPoint-from_clause (λ t. leb t c.args.r) _ _ c.partition_point.ensures.partitioned parted (λ a r q k. search rules) in
    sym (count_split c.args.times.now c.args.r _ c.partition_point.ensures.bound
    (λ k h. leb-true _ _ (point.0 k 0 (omega arith) h)) (λ k h l. leb-false _ _ (point.1 k 0 h l)))
