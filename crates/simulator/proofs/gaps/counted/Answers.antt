use Rattle.std.proofs.Common.{leb, leb-true, leb-false, arith, rules}
use Rattle.std.proofs.lemmas.List.Sorted.{IsPartitionPoint-from_clause, IsPartitionedBy-leb}
use Rattle.simulator.specs.declared.gaps.Gap.{Gap}
use Rattle.simulator.specs.Gaps.{no_gap}
use Rattle.simulator.proofs.gaps.counted.Goals as goal

pub returns-clause-near : goal.returns-clause-near
returns-clause-near c =
    let parted = IsPartitionedBy-leb (λ (g : Gap). g.count) _ c.args.most c.requires.counts in
    let point = IsPartitionPoint-from_clause (λ (g : Gap). leb g.count c.args.most) _ _ c.partition_point.ensures.partitioned parted
    (λ a r q k. search rules) in
    λ i h. leb-true _ _ (point.0 i no_gap (omega arith) h)

pub returns-clause-far : goal.returns-clause-far
returns-clause-far c =
    let parted = IsPartitionedBy-leb (λ (g : Gap). g.count) _ c.args.most c.requires.counts in
    let point = IsPartitionPoint-from_clause (λ (g : Gap). leb g.count c.args.most) _ _ c.partition_point.ensures.partitioned parted
    (λ a r q k. search rules) in
    λ i h l. leb-false _ _ (point.1 i no_gap h l)
