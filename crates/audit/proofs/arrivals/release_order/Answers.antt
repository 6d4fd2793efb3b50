use Rattle.std.proofs.Common.{rules}
use Rattle.std.proofs.lemmas.List.Sorted.{IsNonDecreasingBy-from_sort_by_key}
use Rattle.audit.specs.declared.arrivals.Arrival.{Arrival}
use Rattle.audit.proofs.OrderFacts.{release_order_from}
use Rattle.audit.proofs.arrivals.release_order.Goals as goal

pub returns : goal.returns
returns c =
    release_order_from c.args.run.now c.in_ok-order.order.items c.sort_unstable_by_key.new.self.items c.in_ok-order.ensures
    c.sort_unstable_by_key.ensures.permutation
    (IsNonDecreasingBy-from_sort_by_key (λ (a : Arrival). a.release) _ c.sort_unstable_by_key.ensures.sorted (λ a r q k. search rules))
