use Rattle.std.specs.Prelude.{ℕ, zero, suc, ◌+◌, ◌-◌, ◌*◌, ◌/◌, ◌^◌, Bool, not, ◌&&◌, ◌||◌, ◌==◌, Option, Some, None}
use Rattle.std.specs.Option.{option_map}
use Rattle.guest_base.specs.Search.{first_such, each_such}
use Rattle.guest_base.specs.declared.memory.Block.{Block}

-- The blocks of an order are numbered as in the page allocator: block n of order k has the 2^k
-- pages from n * 2^k on. Blocks 2n and 2n + 1 are buddies, the halves of block n of the next order.

-- whether all pages of a block are free
abbrev pub is_whole : (ℕ → Bool) → ℕ → ℕ → Bool
is_whole free order number = each_such free (number * 2 ^ order) (2 ^ order)

-- a free block: one made of free pages that is no half of another one made of free pages; no block has an order above 10
abbrev pub is_free_block : (ℕ → Bool) → ℕ → ℕ → Bool
is_free_block free order number =
    is_whole free order number && (order == 10 || not (is_whole free (order + 1) (number / 2)))

-- the first page of the lowest free block of the least order that has one, of `orders` orders from `order` on
unfoldable pub lowest_free : (ℕ → Bool) → ℕ → ℕ → Option ℕ
lowest_free free order zero = None
lowest_free free order (suc orders) =
    elim (first_such (is_free_block free order) 0 (2 ^ (28 - order))) as (λ _. Option ℕ)
    [ Some number ↦ Some (number * 2 ^ order) | None ↦ lowest_free free (order + 1) orders ]

-- the block that an allocation gets (own rule): the lowest part, of the asked order, of the lowest
-- free block of the least order that suffices; none where no free block suffices
abbrev pub pick : (ℕ → Bool) → ℕ → Option Block
pick free order =
    option_map (λ first. record { first = first; order = order }) (lowest_free free order (11 - order))
