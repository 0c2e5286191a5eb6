use Rattle.std.proofs.Common.{◌≡◌, ◌+◌, ◌++◌}
use Rattle.event_core.specs.Cut.{pages_end, blocks_from, blocks_of}
use Rattle.guest_boot.proofs.cut.push_blocks.Given as goal

abbrev pub invariant-loop-left : goal.invariant-loop-left
invariant-loop-left l = record {
  blocks : l.blocks.items ++ blocks_from l.left l.first l.left ≡ l.fn.blocks.items ++ blocks_of l.fn.range;
  end : l.first + l.left ≡ pages_end l.fn.range;
}

abbrev pub decreases-loop-left : goal.decreases-loop-left
decreases-loop-left l = l.left
