use Rattle.std.proofs.Common.{◌≡◌, ◌+◌, ◌≤◌, fold, filter, length, take, vec_len, vec_capacity}
use Rattle.page_module.specs.Building.{joined, begins_before}
use Rattle.page_module.proofs.building.join_before.Given as goal

abbrev pub invariant-loop-run : goal.invariant-loop-run
invariant-loop-run l = record {
  items : l.next.items ≡ fold joined l.fn.next.items (filter (begins_before l.first) (take l.run-index l.run-items));
  len : vec_len l.next ≤ vec_len l.fn.next + length (filter (begins_before l.first) (take l.run-index l.run-items));
  capacity : vec_capacity l.fn.next ≤ vec_capacity l.next;
}
