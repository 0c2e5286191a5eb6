use Rattle.std.specs.Prelude.{ℕ, List, Option, Bool, true, false, ◌^◌, ◌*◌, ◌==◌, ◌&&◌, bytes_eq, find}
use Rattle.std.specs.List.{list_any}
use Rattle.guest_base.specs.declared.limits.TheConstants.{PAGE_BYTES}
use Rattle.guest_base.specs.declared.memory.Block.{Block}
use Rattle.guest_base.specs.declared.transfer.Direction.{Direction}
use Rattle.guest_base.specs.declared.transfer.Direction.TheVariants.{ToDevice, FromDevice, Both}
use Rattle.guest_base.specs.declared.transfer.SlotRun.{SlotRun}

-- What a processor has: its blocks and its mappings, each by a name of its own (own rule).

-- Whether the host can read a block: it is private to the guest, shared with the host, or half way back to private, where taking
-- its pages back stopped.
pub data Sharing : Type 0 where
  PrivateBlock : Sharing
  SharedBlock : Sharing
  HalfBlock : Sharing

-- a block that the processor has, and its bytes by their places in it
pub record Holding : Type 0 where
  pub name : List ℕ
  pub block : Block
  pub sharing : Sharing
  pub bytes : ℕ → ℕ

-- a live mapping of the processor: the slots, and the bytes of a block that they stand for, from an offset in the block on
pub record Mapping : Type 0 where
  pub name : List ℕ
  pub run : SlotRun
  pub block : Block
  pub off : ℕ
  pub direction : Direction

-- what a processor's own entries tell of it
pub record Own : Type 0 where
  pub blocks : List Holding
  pub mappings : List Mapping
  -- how many areas the present command has looked in, and found nothing
  pub looks : ℕ
  -- the block whose conversion has begun and not ended
  pub converting : Option Block

-- the block, and the mapping, of a name
abbrev pub block_named : Own → List ℕ → Option Holding
block_named own name = find (λ (h : Holding). bytes_eq h.name name) own.blocks

abbrev pub mapping_named : Own → List ℕ → Option Mapping
mapping_named own name = find (λ (m : Mapping). bytes_eq m.name name) own.mappings

abbrev pub same_block : Block → Block → Bool
same_block a b = (a.first == b.first) && (a.order == b.order)

-- the block of a mapping, as the processor has it
abbrev pub holding_of : Own → Mapping → Option Holding
holding_of own m = find (λ (h : Holding). same_block h.block m.block) own.blocks

-- whether a live mapping of the processor lies in the block
abbrev pub is_mapped : Own → Block → Bool
is_mapped own block = list_any (λ (m : Mapping). same_block m.block block) own.mappings

-- the size of a block in bytes
abbrev pub block_bytes : Block → ℕ
block_bytes block = PAGE_BYTES * 2 ^ block.order

-- a direction asks for copies from the block into the pool, or out of the pool into the block (after swiotlb.c)
abbrev pub asks_in : Direction → Bool
asks_in ToDevice = true
asks_in FromDevice = false
asks_in Both = true

abbrev pub asks_out : Direction → Bool
asks_out ToDevice = false
asks_out FromDevice = true
asks_out Both = true
