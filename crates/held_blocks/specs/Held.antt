-- The blocks that a processor holds, as its own entries tell them.
use Rattle.std.specs.Prelude.{◌≡◌, ℕ, ◌+◌, ◌^◌, ◌≤◌, List, [], ◌∷◌, Option, None, Bool, false, find, map}
use Rattle.std.specs.List.{list_any}
use Rattle.std.specs.Option.{IsSomeAnd, option_map_or}
use Rattle.guest_base.specs.declared.limits.TheConstants.{MAX_ORDER, PAGE_END}
use Rattle.guest_base.specs.declared.memory.Block.{Block}
use Rattle.event_core.specs.Bytes.{row_of}
use Rattle.event_core.specs.Holdings.{PrivateBlock, Holding, Own, block_named, block_bytes, same_block}
use Rattle.sparse_bytes.specs.Runs.{byte_of}
use Rattle.held_blocks.specs.declared.kept.KeptBlock.{KeptBlock}

-- what contracts see of the blocks that are held: each as it is kept, the newest first, and for
-- how many more there is room
pub record Held : Type 0 where
  pub kept : List KeptBlock
  pub room : ℕ

-- a kept block as what the processor has
abbrev pub holding : KeptBlock → Holding
holding k =
    record { name = k.name; block = k.block; sharing = PrivateBlock; bytes = byte_of k.bytes }

abbrev pub blocks_of : Held → List Holding
blocks_of held = map holding held.kept

-- a processor that has these blocks and nothing else
abbrev pub own_with : List Holding → Own
own_with blocks = record { blocks = blocks; mappings = []; looks = 0; converting = None }

-- what a processor has that holds these
abbrev pub owned : Held → Own
owned held = own_with (blocks_of held)

-- the processor has a block of this name, in which the range of bytes ends
abbrev pub EndsWithin : Own → List ℕ → ℕ → ℕ → Type 0
EndsWithin own name off len =
    IsSomeAnd (block_named own name) (λ h. off + len ≤ block_bytes h.block)

-- one of these is this block
abbrev pub is_held : Block → List Holding → Bool
is_held block blocks = list_any (λ (h : Holding). same_block h.block block) blocks

-- the block of these that is one, if any
abbrev pub holding_in : List Holding → Block → Option Holding
holding_in blocks block = find (λ (h : Holding). same_block h.block block) blocks

-- a range of its bytes
abbrev pub bytes_held : List Holding → Block → ℕ → ℕ → List ℕ
bytes_held blocks block off len =
    option_map_or (λ (h : Holding). row_of h.bytes off len) (holding_in blocks block) []

-- how many more writes and fills the bytes of a block that is held can take with no further memory
abbrev pub write_room : Held → Block → ℕ
write_room held block =
    option_map_or (λ (k : KeptBlock). k.bytes.room)
    (find (λ (k : KeptBlock). same_block k.block block) held.kept) 0

-- a block has at most 1,024 pages and ends where memory ends at most
pub record IsInMemory (block : Block) : Type 0 where
  pub order : block.order ≤ MAX_ORDER
  pub end : block.first + 2 ^ block.order ≤ PAGE_END

-- each of these lies in memory, and no two are one block
abbrev pub AreApart : List Holding → Type 0
AreApart [] = Unit {0}
AreApart (h ∷ hs) = IsInMemory h.block × (is_held h.block hs ≡ false) × AreApart hs
