use Rattle.std.proofs.Common.{◌≡◌, ◌≤◌, ◌+◌, length, take}
use Rattle.guest_cpu.proofs.runs.copy_into.Given as goal

abbrev pub invariant-loop-call : goal.invariant-loop-call
invariant-loop-call l = record {
  copied : l.log.calls ≡ take l.call-index l.call-items;
  room : length l.call-items ≤ l.log.room + l.call-index;
}
