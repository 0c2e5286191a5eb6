use Rattle.std.proofs.Common.{◌≤◌, length, map}
use Rattle.guest_script.specs.Order.{AddsTurns}
use Rattle.guest_script.proofs.order.read_turns.Given as goal

-- the turns of the words so far
abbrev pub invariant-loop-word : goal.invariant-loop-word
invariant-loop-word l = record {
  turns : AddsTurns l.cpus (map (λ word. word.now) l.yielded) l.fn.turns.items l.turns.items;
  few : length l.turns.items ≤ 16777216;
}
