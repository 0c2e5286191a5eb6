use Rattle.std.specs.Prelude.{◌≡◌, ℕ, ◌+◌, ◌*◌, ◌/◌, ◌%◌, ◌^◌, ◌≤◌, ◌==◌, ◌&&◌, not, Bool, true, false, List}
use Rattle.std.specs.List.{list_any}
use Rattle.guest_base.specs.declared.limits.TheConstants.{PAGE_END}
use Rattle.guest_base.specs.Ranges.{InRange, in_range}
use Rattle.guest_base.specs.declared.memory.Block.{Block}
use Rattle.block_allocator.specs.declared.buddy_block.BuddyBlock.{BuddyBlock}
use Rattle.block_allocator.specs.Kept.{Rises, Buddies, kept, covers}

-- what an allocator holds: its free blocks, its waiting blocks, and how many more of either it has
-- room for
pub record State : Type 0 where
  pub free : List BuddyBlock
  pub waiting : List BuddyBlock
  pub room : ℕ

-- whether a page is free
abbrev pub is_free : State → ℕ → Bool
is_free v page = covers v.free page

-- whether a block waits that begins at a page
abbrev pub waits : State → ℕ → Bool
waits v first = list_any (λ b. b.number * 2 ^ b.order == first) v.waiting

-- whether a page lies in a waiting block: these have order 10, and begin at multiples of their size
abbrev pub page_waits : State → ℕ → Bool
page_waits v page = waits v (page / 2 ^ 10 * 2 ^ 10)

-- no page both is free and lies in a waiting block
pub record Apart (v : State) : Type 0 where
  pub pages : (page : ℕ) → is_free v page ≡ true → page_waits v page ≡ false

-- a block of this order, which begins at a multiple of its size and ends at page 2^28 at most
abbrev pub IsBlock : ℕ → Block → Type 0
IsBlock order block =
    (block.order ≡ order) × (block.first % 2 ^ order ≡ 0) × (block.first + 2 ^ order ≤ PAGE_END)

-- the block waits, and no waiting block begins before it
abbrev pub IsLowestWaiting : State → Block → Type 0
IsLowestWaiting v block =
    (waits v block.first ≡ true) × ((first : ℕ) → waits v first ≡ true → block.first ≤ first)

-- all pages of a block of this order were free, and now they aren't; other pages stay as they were
abbrev pub Takes : ℕ → Block → (ℕ → Bool) → (ℕ → Bool) → Type 0
Takes order block old new =
    ((page : ℕ) → InRange block.first (2 ^ order) page → old page ≡ true)
    × ((page : ℕ) → new page ≡ (old page && not (in_range block.first (2 ^ order) page)))

-- a block may be put among the free or the waiting ones: it has an order and a place that blocks
-- have, none of its pages is free, and none waits
pub record MayPut (v : State) (block : Block) : Type 0 where
  pub order : block.order ≤ 10
  pub aligned : block.first % 2 ^ block.order ≡ 0
  pub end : block.first + 2 ^ block.order ≤ PAGE_END
  pub not_free : (page : ℕ) → InRange block.first (2 ^ block.order) page → is_free v page ≡ false
  pub not_waiting : (page : ℕ) → InRange block.first (2 ^ block.order) page
      → page_waits v page ≡ false

-- the free blocks are kept as buddies are, the waiting ones have order 10, and no page is in both
pub record IsSound (free waiting : List BuddyBlock) : Type 0 where
  pub rises : Rises free
  pub buddies : Buddies (kept free)
  pub waiting_rises : Rises waiting
  pub waiting_form : (order number : ℕ) → kept waiting order number ≡ true
      → (order ≡ 10) × ((number + 1) * 2 ^ 10 ≤ PAGE_END)
  pub apart : (page : ℕ) → covers free page ≡ true → covers waiting page ≡ false
