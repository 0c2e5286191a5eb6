use Rattle.std.specs.Prelude.{◌≡◌, ℕ, ◌+◌, ◌*◌, ◌/◌, ◌^◌, ◌<◌, ◌≤◌, ◌==◌, ◌&&◌, Bool, true, false, List, length, slice_index_or}
use Rattle.std.specs.List.{list_any}
use Rattle.guest_base.specs.declared.limits.TheConstants.{PAGE_END}
use Rattle.block_allocator.specs.declared.buddy_block.BuddyBlock.{BuddyBlock}

-- a block's place among others: by order, then by address
abbrev pub rank : BuddyBlock → ℕ
rank b = b.order * 2 ^ 64 + b.number

-- each block stands before those of a greater rank, and no two have one rank
abbrev pub Rises : List BuddyBlock → Type 0
Rises xs =
    (i j : ℕ) (d : BuddyBlock) → i < j → j < length xs
    → rank (slice_index_or xs i d) < rank (slice_index_or xs j d)

-- whether a block is the one of this order and number
abbrev pub is_numbered : ℕ → ℕ → BuddyBlock → Bool
is_numbered order number b = b.order == order && b.number == number

-- whether a block holds a page
abbrev pub holds_page : ℕ → BuddyBlock → Bool
holds_page page b = page / 2 ^ b.order == b.number

-- whether a list has the block of this order and number
abbrev pub kept : List BuddyBlock → ℕ → ℕ → Bool
kept xs order number = list_any (is_numbered order number) xs

-- whether some block of a list holds a page
abbrev pub covers : List BuddyBlock → ℕ → Bool
covers xs page = list_any (holds_page page) xs

-- Blocks that are kept as a buddy allocator keeps them.
pub record Buddies (kept : ℕ → ℕ → Bool) : Type 0 where
  -- no order is above 10, and no page is beyond 2^28
  pub form : (order number : ℕ) → kept order number ≡ true
      → (order ≤ 10) × ((number + 1) * 2 ^ order ≤ PAGE_END)
  -- a page lies in at most one of them
  pub apart : (page order other : ℕ) → kept order (page / 2 ^ order) ≡ true
      → kept other (page / 2 ^ other) ≡ true → order ≡ other
  -- below order 10 no block is kept beside its buddy
  pub alone : (order number : ℕ) → kept order (2 * number) ≡ true
      → kept order (2 * number + 1) ≡ true
      → 10 ≤ order

-- a block that isn't kept, beside kept blocks none of which holds any of its pages
pub record Beside (kept_blocks : List BuddyBlock) (b : BuddyBlock) : Type 0 where
  pub buddies : Buddies (kept kept_blocks)
  pub order : b.order ≤ 10
  pub end : (b.number + 1) * 2 ^ b.order ≤ PAGE_END
  pub apart : (page : ℕ) → holds_page page b ≡ true → covers kept_blocks page ≡ false
