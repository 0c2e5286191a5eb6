use Rattle.std.proofs.Common.{◌≡◌, ◌+◌, ◌≤◌, fold, take, vec_len, vec_capacity}
use Rattle.page_module.specs.Building.{joined}
use Rattle.page_module.proofs.building.join_all.Given as goal

abbrev pub invariant-loop-run : goal.invariant-loop-run
invariant-loop-run l = record {
  items : l.next.items ≡ fold joined l.fn.next.items (take l.run-index l.runs);
  len : vec_len l.next ≤ vec_len l.fn.next + l.run-index;
  capacity : vec_capacity l.fn.next ≤ vec_capacity l.next;
}
