-- What a value under a lock keeps for all processors, and what it keeps for each of them (own rule).
use Rattle.std.specs.Prelude.{ℕ, List, Option}
use Rattle.guest_base.specs.declared.memory.Pages.{Pages}
use Rattle.guest_base.specs.declared.memory.Units.{Units}
use Rattle.guest_base.specs.declared.memory.Block.{Block}
use Rattle.guest_base.specs.declared.transfer.SlotRun.{SlotRun}
use Rattle.event_core.specs.declared.boot.Boot.{Boot}

-- what no step changes; a memory has its boot and no area, an area its own pair and no boot, and a value that holds a memory and
-- areas has the boot and all their pairs
pub record Fixed : Type 0 where
  -- how the guest was booted, where the value holds its memory
  pub boot : Option Boot
  -- each area of the pool that the value holds: its number, and its count of slots
  pub areas : List (ℕ × ℕ)

-- an open claim for acceptance, as Linux's accepting_list has one for each processor that accepts
pub record OpenClaim : Type 0 where
  -- the units that it claims
  pub units : Units
  -- the waiting block that it is for, if it is for one
  pub block : Option Block
  -- its maximal runs of units whose bits were set when it began, rising
  pub runs : List Units

-- what a value keeps for one processor; what it does not keep is none or empty
pub record Part : Type 0 where
  -- the processor's open claim
  pub claim : Option OpenClaim
  -- the block that it is converting
  pub converting : Option Block
  -- the page ranges that are out with it, for calls of the secure module
  pub out : List Pages
  -- the room that is kept for the end of its claim or conversion, as numbers
  pub room : List ℕ
  -- its live mappings
  pub live : List SlotRun
