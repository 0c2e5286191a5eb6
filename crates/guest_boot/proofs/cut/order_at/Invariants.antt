use Rattle.std.proofs.Common.{◌≡◌, ◌≤◌}
use Rattle.event_core.specs.Cut.{order_at}
use Rattle.guest_boot.proofs.cut.order_at.Given as goal

abbrev pub invariant-loop-order : goal.invariant-loop-order
invariant-loop-order l = record {
  same : order_at l.first l.left l.order ≡ order_at l.first l.left 10;
  most : l.order ≤ 10;
}

abbrev pub decreases-loop-order : goal.decreases-loop-order
decreases-loop-order l = l.order
