use Rattle.std.proofs.Common.{◌≡◌, ◌++◌, true, take, drop, vec_capacity}
use Rattle.page_module.specs.Tables.{is_out, without}
use Rattle.page_module.proofs.table.remove_ticket.Given as goal

abbrev pub invariant-loop-at : goal.invariant-loop-at
invariant-loop-at l = record {
  same : l.out.items ≡ l.fn.out.items;
  capacity : vec_capacity l.out ≡ vec_capacity l.fn.out;
  there : is_out (drop l.at l.fn.out.items) l.ticket ≡ true;
  before : without l.ticket l.fn.out.items ≡ take l.at l.fn.out.items ++ without l.ticket (drop l.at l.fn.out.items);
}
