use Rattle.audit.proofs.UndoneFacts.{front_some, front_none}
use Rattle.audit.proofs.undone.front_of.Goals as goal

pub returns-then-place-order-clause-front : goal.returns-then-place-order-clause-front
returns-then-place-order-clause-front c =
    front_some c.args.run.now c.args.served.now c.args.order.now c.args.o c.next_place-place.result c.requires.order
    c.if-place-order.true c.next_place-place.ensures.past (c.next_place-place.ensures.left c.if-place-order.true)

pub returns-else-place-order-clause-front : goal.returns-else-place-order-clause-front
returns-else-place-order-clause-front c =
    front_none c.args.run.now c.args.served.now c.args.order.now c.args.o c.next_place-place.result c.requires.order
    c.if-place-order.false c.next_place-place.ensures.past
