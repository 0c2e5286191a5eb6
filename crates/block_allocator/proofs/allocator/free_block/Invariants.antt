use Rattle.std.proofs.Common.{◌≡◌, ℕ, ◌-◌, ◌≤◌, ◌||◌, vec_len, vec_capacity}
use Rattle.block_allocator.specs.Kept.{Rises, Beside, covers, holds_page}
use Rattle.block_allocator.proofs.allocator.free_block.Given as goal

abbrev pub invariant-loop-larger : goal.invariant-loop-larger
invariant-loop-larger l = record {
  rises : Rises l.free.items;
  beside : Beside l.free.items l.block;
  pages : (page : ℕ) → (covers l.free.items page || holds_page page l.block) ≡ (covers l.fn.free.items page || holds_page page l.fn.block);
  len : vec_len l.free ≤ vec_len l.fn.free;
  capacity : vec_capacity l.free ≡ vec_capacity l.fn.free;
}

abbrev pub decreases-loop-larger : goal.decreases-loop-larger
decreases-loop-larger l = 10 - l.block.order
