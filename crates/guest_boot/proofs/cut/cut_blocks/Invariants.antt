use Rattle.std.proofs.Common.{◌≡◌, take}
use Rattle.std.specs.List.{flat_map}
use Rattle.event_core.specs.Cut.{blocks_of}
use Rattle.guest_boot.proofs.cut.cut_blocks.Given as goal

abbrev pub invariant-loop-range : goal.invariant-loop-range
invariant-loop-range l = l.blocks.items ≡ flat_map blocks_of (take l.range-index l.range-items)
