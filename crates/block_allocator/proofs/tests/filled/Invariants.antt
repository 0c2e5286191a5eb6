use Rattle.std.proofs.Common.{◌≡◌, ℕ, ◌+◌, ◌≤◌, false}
use Rattle.block_allocator.specs.State.{is_free, waits}
use Rattle.block_allocator.proofs.tests.filled.Given as goal

abbrev pub invariant-loop-page : goal.invariant-loop-page
invariant-loop-page l = record {
  above : (page : ℕ) → l.page ≤ page → is_free l.blocks page ≡ false;
  none_waits : (first : ℕ) → waits l.blocks first ≡ false;
  room : 18 ≤ l.blocks.room + l.page;
}
