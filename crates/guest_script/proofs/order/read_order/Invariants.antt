use Rattle.std.proofs.Common.{◌≤◌, [], length, map}
use Rattle.std.specs.List.{flat_map}
use Rattle.guest_script.specs.Order.{AddsTurns, turn_words}
use Rattle.guest_script.proofs.order.read_order.Given as goal

-- the turns of the lines so far
abbrev pub invariant-loop-line : goal.invariant-loop-line
invariant-loop-line l = record {
  turns : AddsTurns l.cpus (flat_map turn_words (map (λ line. line.now) l.yielded)) [] l.turns.items;
  few : length l.turns.items ≤ 16777216;
}
