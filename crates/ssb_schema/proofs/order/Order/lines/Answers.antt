use Rattle.ssb_schema.proofs.OrderLaws.{order_keeps}
use Rattle.ssb_schema.proofs.order.Order.lines.Goals as goal

pub returns-clause-order : goal.returns-clause-order
returns-clause-order c = rw (← c.self.view_is) (order_keeps c.self.inside.lines.items c.self.invariant)
