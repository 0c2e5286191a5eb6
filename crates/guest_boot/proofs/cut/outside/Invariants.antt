use Rattle.std.proofs.Common.{◌≡◌, take}
use Rattle.std.specs.List.{flat_map}
use Rattle.event_core.specs.Cut.{without_pool}
use Rattle.guest_boot.proofs.cut.outside.Given as goal

abbrev pub invariant-loop-range : goal.invariant-loop-range
invariant-loop-range l = l.left.items ≡ flat_map (without_pool l.pool) (take l.range-index l.ranges)
