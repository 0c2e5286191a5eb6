use Rattle.std.proofs.Common.{◌≡◌, ◌+◌, ◌≤◌, fold, length, take, vec_len, vec_capacity}
use Rattle.std.specs.List.{flat_map}
use Rattle.page_module.specs.Building.{joined, cut}
use Rattle.page_module.proofs.building.cut_out.Given as goal

abbrev pub invariant-loop-run : goal.invariant-loop-run
invariant-loop-run l = record {
  items : l.next.items ≡ fold joined l.fn.next.items (flat_map (cut l.pages) (take l.run-index l.run-items));
  len : vec_len l.next ≤ vec_len l.fn.next + length (flat_map (cut l.pages) (take l.run-index l.run-items));
  capacity : vec_capacity l.fn.next ≤ vec_capacity l.next;
}
