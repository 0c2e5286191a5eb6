use Rattle.std.specs.Prelude.{ℕ, List, [], ◌∷◌, Option, None, Some, false, ◌≡◌, ◌+◌, ◌*◌, ◌<◌, ◌≤◌, bytes_eq, find}
use Rattle.std.specs.Option.{ForSome, IsSomeAnd}
use Rattle.guest_base.specs.declared.limits.TheConstants.{PAGE_BYTES}
use Rattle.guest_base.specs.Requests.{too_long}
use Rattle.event_core.specs.Holdings.{Holding, Mapping, Own, block_bytes, block_named, mapping_named}
use Rattle.dma_map.specs.Kept.{Kept}
use Rattle.dma_map.specs.Pools.{IsLayout}
use Rattle.dma_map.specs.declared.pool.Layout.{Layout}
use Rattle.held_blocks.specs.Held.{Held, EndsWithin, blocks_of}

-- What a processor holds, as its own entries tell it.

-- What contracts see of it: its blocks, its mappings, how many looks for the present mapping found
-- nothing, and the pool's layout.
pub record HoldingsValue : Type 0 where
  pub held : Held
  pub kept : Kept
  pub looks : ℕ
  pub layout : Option Layout

-- a processor that has these blocks and mappings, and is converting nothing
abbrev pub own_by : Held → Kept → ℕ → Own
own_by held kept looks = record {
  blocks = blocks_of held;
  mappings = kept.mappings;
  looks = looks;
  converting = None;
}

-- all that the processor has
abbrev pub own_in : HoldingsValue → Own
own_in v = own_by v.held v.kept v.looks

-- the mapping is of a block that is held by a name, and ends in it
pub record IsOfHeld (blocks : List Holding) (mapping : Mapping) : Type 0 where
  pub name : List ℕ
  pub holding : Holding
  pub named : find (λ (h : Holding). bytes_eq h.name name) blocks ≡ Some holding
  pub same : holding.block ≡ mapping.block
  pub within : mapping.off + mapping.run.len ≤ block_bytes mapping.block

abbrev pub AreOfHeld : List Holding → List Mapping → Type 0
AreOfHeld blocks [] = Unit {0}
AreOfHeld blocks (m ∷ ms) = IsOfHeld blocks m × AreOfHeld blocks ms

-- each mapping is of a block that is held, and the pool, where there is one, has a layout
pub record HoldingsStand (own : Own) (layout : Option Layout) : Type 0 where
  pub mapped : AreOfHeld own.blocks own.mappings
  pub pool : ForSome layout IsLayout

-- a step leaves the processor this, and the layout
pub record Leaves (old new : HoldingsValue) (left : Own) : Type 0 where
  pub own : own_in new ≡ left
  pub layout : new.layout ≡ old.layout

-- nothing changed but the rooms, of which those for blocks and mappings didn't shrink
pub record LeavesAll (old new : HoldingsValue) : Type 0 where
  pub own : own_in new ≡ own_in old
  pub layout : new.layout ≡ old.layout
  pub block_room : old.held.room ≤ new.held.room
  pub mapping_room : old.kept.room ≤ new.kept.room

-- the processor has a mapping of this name, in which the range of bytes ends
abbrev pub IsPart : Own → List ℕ → ℕ → ℕ → Type 0
IsPart own mapping off len =
    IsSomeAnd (mapping_named own mapping) (λ (m : Mapping). off + len ≤ m.run.len)

-- the processor has a block of this name, and a range of bytes of it fits an empty segment
pub record MayMap (own : Own) (name : List ℕ) (off len mask : ℕ) : Type 0 where
  pub some : 0 < len
  pub within : EndsWithin own name off len
  pub short : ForSome (block_named own name) (λ (h : Holding).
      too_long (PAGE_BYTES * h.block.first + off) len mask ≡ false)
