use Rattle.audit.proofs.OrderFacts.{order_from}
use Rattle.audit.proofs.arrivals.arrival_order.Goals as goal

pub returns : goal.returns
returns c =
    order_from c.args.run.now c.in_ok-order.order.items c.sort_unstable.new.self.items c.in_ok-order.ensures
    c.sort_unstable.ensures.permutation c.sort_unstable.ensures.sorted
