use Rattle.std.specs.Prelude.{ℕ, List, Option, None, Some, not, ◌≡◌, ◌+◌, ◌^◌, ◌<◌, ◌≤◌, ◌==◌, ◌&&◌, ◌||◌, sum_by}
use Rattle.guest_base.specs.Ranges.{in_range}
use Rattle.guest_base.specs.declared.memory.Block.{Block}
use Rattle.guest_base.specs.declared.memory.Page.{Page}
use Rattle.guest_base.specs.declared.memory.Units.{Units}
use Rattle.event_core.specs.declared.boot.Boot.{Boot}
use Rattle.event_core.specs.declared.entry.Entry.{Entry}
use Rattle.event_core.specs.Blocks.{free_page}
use Rattle.block_allocator.specs.State.{State, is_free, waits}
use Rattle.memory_core.specs.Waiting.{waits_from}
use Rattle.memory_core.specs.declared.claims.OpenClaim.{OpenClaim}

-- The kept blocks.

-- The free and the waiting blocks are those after the memory's entries.
pub record BlocksAfter (boot : Boot) (memory : List Entry) (blocks : State) : Type 0 where
  pub free : (page : ℕ) → is_free blocks page ≡ free_page boot memory page
  pub waiting : (first : ℕ) → waits blocks first ≡ waits_from boot memory first

-- an open claim for a block keeps the room for one, which it will free or let wait again
abbrev pub blocks_in : Option Block → ℕ
blocks_in None = 0
blocks_in (Some block) = 1

abbrev pub flights_of : Option OpenClaim → ℕ
flights_of None = 0
flights_of (Some claim) = blocks_in claim.block

-- There is room for the blocks of the open claims, and where there is room for the next step, for
-- the parts of a block that is split in it.
pub record HasBlockRoom (blocks : State) (claims : List (Option OpenClaim)) (room : ℕ)
    : Type 0 where
  pub claimed : sum_by flights_of claims ≤ blocks.room
  pub step : 0 < room → sum_by flights_of claims + 10 ≤ blocks.room

-- all pages of a block become free
pub record Frees (old new : State) (block : Block) : Type 0 where
  pub pages : (page : ℕ) → is_free new page
      ≡ (is_free old page || in_range block.first (2 ^ block.order) page)
  pub waiting : (first : ℕ) → waits new first ≡ waits old first
  pub room : old.room ≤ new.room + 1

-- a block waits again
pub record LetsWait (old new : State) (block : Block) : Type 0 where
  pub free : (page : ℕ) → is_free new page ≡ is_free old page
  pub waiting : (first : ℕ) → waits new first ≡ (waits old first || block.first == first)
  pub room : old.room ≤ new.room + 1

-- a block waits no longer
pub record TakesOut (old new : State) (block : Block) : Type 0 where
  pub free : (page : ℕ) → is_free new page ≡ is_free old page
  pub waiting : (first : ℕ) → waits new first ≡ (waits old first && not (block.first == first))
  pub room : old.room ≤ new.room

-- a block waits no longer, and all its pages become free
pub record Releases (old new : State) (block : Block) : Type 0 where
  pub pages : (page : ℕ) → is_free new page
      ≡ (is_free old page || in_range block.first (2 ^ block.order) page)
  pub waiting : (first : ℕ) → waits new first ≡ (waits old first && not (block.first == first))
  pub room : old.room ≤ new.room + 1

-- what a claim makes of the blocks: the one that it is for, if any, waits no longer, and is free
-- where the claim has no run
abbrev pub Begins : State → State → Option Block → Option Units → Type 0
Begins old new None run = new ≡ old
Begins old new (Some block) (Some run) = TakesOut old new block
Begins old new (Some block) None = Releases old new block

-- the block of a closed claim, if any, is free, or waits again where its acceptance stopped
abbrev pub PutBack : State → State → Option Block → Option Page → Type 0
PutBack old new None stopped = new ≡ old
PutBack old new (Some block) None = Frees old new block
PutBack old new (Some block) (Some page) = LetsWait old new block
