use Rattle.std.proofs.Common.{◌≡◌, ◌+◌, ◌≤◌, ◌++◌, length, take, vec_len, vec_capacity}
use Rattle.std.specs.List.{flat_map}
use Rattle.page_module.specs.Building.{common}
use Rattle.page_module.proofs.building.copy_runs.Given as goal

abbrev pub invariant-loop-run : goal.invariant-loop-run
invariant-loop-run l = record {
  items : l.taken.items ≡ l.fn.taken.items ++ flat_map (common l.pages) (take l.run-index l.run-items);
  len : vec_len l.taken ≤ vec_len l.fn.taken + length (flat_map (common l.pages) (take l.run-index l.run-items));
  capacity : vec_capacity l.fn.taken ≤ vec_capacity l.taken;
}
