use Rattle.std.proofs.Common.{◌≡◌, ℕ, ◌+◌, ◌*◌, ◌^◌, ◌≤◌, ◌||◌, vec_len, vec_capacity}
use Rattle.block_allocator.specs.Kept.{Rises, Beside, covers, holds_page}
use Rattle.block_allocator.proofs.allocator.split_down.Given as goal

abbrev pub invariant-loop-part : goal.invariant-loop-part
invariant-loop-part l = record {
  rises : Rises l.free.items;
  beside : Beside l.free.items l.part;
  order : (l.order ≤ l.part.order) × (l.part.order ≤ l.fn.block.order);
  lowest : l.part.number * 2 ^ l.part.order ≡ l.fn.block.number * 2 ^ l.fn.block.order;
  pages : (page : ℕ) → (covers l.free.items page || holds_page page l.part) ≡ (covers l.fn.free.items page || holds_page page l.fn.block);
  len : vec_len l.free + l.part.order ≡ vec_len l.fn.free + l.fn.block.order;
  capacity : vec_capacity l.fn.free ≤ vec_capacity l.free;
}

abbrev pub decreases-loop-part : goal.decreases-loop-part
decreases-loop-part l = l.part.order
