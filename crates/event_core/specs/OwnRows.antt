use Rattle.std.specs.Prelude.{ℕ, List, ◌++◌, ◌∷◌, [], Option, None, Some, Bool, true, false, ◌+◌, ◌-◌, ◌^◌, nat_le}
use Rattle.std.specs.List.{repeat}
use Rattle.guest_base.specs.declared.memory.Block.{Block}
use Rattle.guest_base.specs.declared.memory.PageState.{PageState}
use Rattle.guest_base.specs.declared.memory.PageState.TheVariants.{Pending, Accepted, Shared}
use Rattle.event_core.specs.declared.boot.Boot.{Boot}
use Rattle.event_core.specs.declared.reply.Found.{Found}
use Rattle.event_core.specs.declared.reply.Found.TheVariants as found
use Rattle.event_core.specs.declared.entry.Entry.{Entry}
use Rattle.event_core.specs.Calls.{calls_of}
use Rattle.event_core.specs.MemoryRows.{page_state}
use Rattle.event_core.specs.Absent.{is_absent}
use Rattle.event_core.specs.Bytes.{row_of}
use Rattle.event_core.specs.Holdings.{Holding, block_bytes}

-- What a processor reads of its blocks. A load takes eight bytes, and may stray past its block's end into the next page (own rule).

-- the load ends in its block
abbrev pub is_inside : Block → ℕ → Bool
is_inside block off = nat_le (off + 8) (block_bytes block)

-- the bytes of a load that ends past its block: those of the block, and zeros
abbrev pub strayed_bytes : Holding → ℕ → List ℕ
strayed_bytes h off = row_of h.bytes off (block_bytes h.block - off) ++ repeat (off + 8 - block_bytes h.block) (0 ∷ [])

-- the page behind a block
abbrev pub page_behind : Block → ℕ
page_behind block = block.first + 2 ^ block.order

-- what a load finds in a page: that it isn't RAM, that it is absent, or its state; a pending page would stop the guest, and has no
-- word
abbrev pub found_by : Bool → Option PageState → Option Found
found_by absent None = Some found.Outside
found_by true (Some state) = Some found.Absent
found_by false (Some Accepted) = Some found.Accepted
found_by false (Some Shared) = Some found.Shared
found_by false (Some Pending) = None

unfoldable pub found_at : Boot → List Entry → ℕ → Option Found
found_at boot memory page = found_by (is_absent memory page) (page_state boot (calls_of boot memory) page)
