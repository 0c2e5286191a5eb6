use Rattle.std.proofs.Common.{◌≡◌, ◌≤◌, ◌^◌, ◌++◌, drop}
use Rattle.event_core.specs.Cut.{pages_end, joined, ram_ranges}
use Rattle.guest_boot.proofs.cut.ranges_from.Given as goal

abbrev pub invariant-loop-next : goal.invariant-loop-next
invariant-loop-next l = record {
  ranges : l.ranges.items ++ joined l.last (ram_ranges (drop l.next-index l.others)) ≡ joined l.fn.first (ram_ranges l.others);
  low : pages_end l.last ≤ 2 ^ 28;
}
