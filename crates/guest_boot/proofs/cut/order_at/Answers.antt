use Rattle.std.proofs.Common.{sym, ◌∙◌, arith}
use Rattle.guest_boot.proofs.CutLemmas.{order-below, order-here, order-last}
use Rattle.guest_boot.proofs.cut.order_at.Goals as goal

pub loop-order-preserved : goal.loop-order-preserved
loop-order-preserved c = record {
  same = order-below c.args.first c.args.left c.loop-order.order c.loop-order-test.true (sym c.may_stand.ensures ∙ c.if-not-may_stand.true) ∙ c.loop-order.invariant.same;
  most = omega arith;
}

pub returns-else-not-may_stand-clause-order : goal.returns-else-not-may_stand-clause-order
returns-else-not-may_stand-clause-order c = sym (order-here c.args.first c.args.left c.loop-order.order (sym c.may_stand.ensures ∙ c.if-not-may_stand.false)) ∙ c.loop-order.invariant.same

pub returns-after-loop-order-clause-order : goal.returns-after-loop-order-clause-order
returns-after-loop-order-clause-order c = sym (order-last c.args.first c.args.left c.loop-order.order c.loop-order-test.false) ∙ c.loop-order.invariant.same
