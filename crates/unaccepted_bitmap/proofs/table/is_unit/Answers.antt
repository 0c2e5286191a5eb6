use Rattle.std.proofs.Common.{◌∙◌, sym}
use Rattle.unaccepted_bitmap.proofs.TableFacts.{order_at, order_past, order_end}
use Rattle.unaccepted_bitmap.proofs.table.is_unit.Goals as goal

pub returns-then-unit-order : goal.returns-then-unit-order
returns-then-unit-order c = sym (c.loop-order.invariant ∙ order_at c.args.unit c.loop-order.order c.loop-order-test.true c.if-unit-order.true)

pub loop-order-preserved : goal.loop-order-preserved
loop-order-preserved c = c.loop-order.invariant ∙ order_past c.args.unit c.loop-order.order c.loop-order-test.true c.if-unit-order.false

pub returns : goal.returns
returns c = sym (c.loop-order.invariant ∙ order_end c.args.unit c.loop-order.order c.loop-order-test.false)
