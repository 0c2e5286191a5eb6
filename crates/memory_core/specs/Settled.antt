use Rattle.std.specs.Prelude.{ℕ, List, Some, true, false, ◌≡◌, ◌≢◌, ◌⊎◌, ◌+◌, ◌%◌, ◌^◌, ◌≤◌, Contains}
use Rattle.guest_base.specs.declared.limits.TheConstants.{MAX_ORDER, PAGE_END}
use Rattle.guest_base.specs.declared.memory.Block.{Block}
use Rattle.event_core.specs.declared.boot.Boot.{Boot}
use Rattle.event_core.specs.declared.entry.Entry.{Entry}
use Rattle.event_core.specs.Absent.{in_block, is_absent}
use Rattle.event_core.specs.Blocks.{InFlight, Loose, block_state, is_owned}
use Rattle.event_core.specs.Claims.{Claimed, claim_of}
use Rattle.event_core.specs.Cut.{cut}
use Rattle.event_laws.specs.Coming.{BootMade}
use Rattle.block_laws.specs.Apart.{AreApart}
use Rattle.block_laws.specs.Guarded.{MemoryStands}
use Rattle.memory_core.specs.Owners.{is_owner}

-- What stands of blocks in the memory, whatever is kept of them.

-- A block that a processor owns: it has an order and a place that blocks have, lies in a block of
-- the cut that is accepted, and its pages are owned.
pub record OwnerStands (boot : Boot) (memory : List Entry) (block : Block) : Type 0 where
  pub order : block.order ≤ MAX_ORDER
  pub aligned : block.first % 2 ^ block.order ≡ 0
  pub end : block.first + 2 ^ block.order ≤ PAGE_END
  pub home : Block
  pub cut_has : Contains (cut boot) home
  pub loose : block_state boot memory home ≡ Loose
  pub inside : (page : ℕ) → in_block page block ≡ true → in_block page home ≡ true
  pub owned : (page : ℕ) → in_block page block ≡ true → is_owned memory page ≡ true

-- What the states of blocks say: a block that isn't loose has order 10, one that is being accepted
-- is its processor's claim, and an owned page lies in no block of the cut that isn't loose.
pub record StatesStand (boot : Boot) (memory : List Entry) : Type 0 where
  pub tens : (block : Block) → block_state boot memory block ≢ Loose → block.order ≡ 10
  pub flying : (cpu : ℕ) (block : Block) → block_state boot memory block ≡ InFlight cpu
      → (claim : Claimed)
      × (claim_of boot memory cpu ≡ Some claim) × (claim.block ≡ Some block)
  pub owned : (block : Block) (page : ℕ) → Contains (cut boot) block → in_block page block ≡ true
      → is_owned memory page ≡ true → block_state boot memory block ≡ Loose

-- The memory of a boot that was made of a map: pages are pending where they may be, the blocks that
-- processors own are apart, a claim for a block holds this block in flight, and nothing is absent.
pub record Settled (boot : Boot) (memory : List Entry) : Type 0 where
  pub made : BootMade boot
  pub stands : MemoryStands boot memory
  pub states : StatesStand boot memory
  pub owners : (cpu : ℕ) (block : Block)
      → is_owner memory cpu block ≡ true → OwnerStands boot memory block
  pub apart : (cpu other : ℕ) (a b : Block) → is_owner memory cpu a ≡ true
      → is_owner memory other b ≡ true → (cpu ≢ other) ⊎ (a ≢ b) → AreApart a b
  pub flights : (cpu : ℕ) (claim : Claimed) (block : Block)
      → claim_of boot memory cpu ≡ Some claim → claim.block ≡ Some block
      → (block_state boot memory block ≡ InFlight cpu) × Contains (cut boot) block
  pub absent : (page : ℕ) → is_absent memory page ≡ false
