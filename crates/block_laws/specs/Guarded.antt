use Rattle.std.specs.Prelude.{ℕ, List, ◌++◌, Some, true, false, ◌≡◌, ◌⊎◌, ◌+◌, ◌<◌, ◌≤◌}
use Rattle.std.specs.List.{AllByRecursion}
use Rattle.guest_base.specs.declared.memory.Block.{Block}
use Rattle.guest_base.specs.declared.memory.Pages.{Pages}
use Rattle.guest_base.specs.declared.memory.Units.{Units}
use Rattle.guest_base.specs.declared.memory.PageState.TheVariants.{Accepted}
use Rattle.event_core.specs.declared.boot.Boot.{Boot}
use Rattle.event_core.specs.declared.entry.Entry.{Entry}
use Rattle.event_core.specs.declared.module_call.CallKind.TheVariants.{Accept, Share}
use Rattle.event_core.specs.declared.module_call.ModuleCall.{ModuleCall}
use Rattle.event_core.specs.Absent.{in_block}
use Rattle.event_core.specs.Blocks.{BlockState, Waits, InFlight, Loose, block_state, block_units}
use Rattle.event_core.specs.Calls.{calls_of}
use Rattle.event_core.specs.Claims.{Claimed, claim_of}
use Rattle.event_core.specs.Cut.{cut}
use Rattle.event_core.specs.MemoryRows.{page_state, is_pending}
use Rattle.event_core.specs.OwnRows.{page_behind}
use Rattle.event_core.specs.Units.{unit_first, unit_pages, units_end, bit_after}

-- Where pages may be pending, as long as commands convert nothing (own rule, after
-- unaccepted_memory.c: the guard unit is accepted with a block).

-- a call that accepts, or the one that shares the pool
abbrev pub IsPlainCall : Boot → ModuleCall → Type 0
IsPlainCall boot call =
    (call.kind ≡ Accept)
    ⊎ ((pool : Pages) × (boot.pool ≡ Some pool)
    × (call.kind ≡ Share) × (call.first ≡ pool.first) × (call.count ≡ pool.count))

-- a page of a unit
pub record PageIn (boot : Boot) (unit page : ℕ) : Type 0 where
  pub low : unit_first boot unit ≤ page
  pub high : page < unit_first boot unit + unit_pages boot

-- a unit of some units
pub record UnitIn (units : Units) (unit : ℕ) : Type 0 where
  pub low : units.first ≤ unit
  pub high : unit < units_end units

-- a page of a block, or the page behind it
pub record IsAt (block : Block) (page : ℕ) : Type 0 where
  pub low : block.first ≤ page
  pub high : page ≤ page_behind block

-- no page of the block is pending after calls, nor is the page behind it, where a load may stray
abbrev pub NonePending : Boot → List ModuleCall → Block → Type 0
NonePending boot calls block =
    (page : ℕ) → IsAt block page → is_pending (page_state boot calls page) ≡ false

-- what stands of a block of the cut: one in flight has an open claim for its guarded units, and in
-- one that is loose, whose pages are free or owned, no page is pending, nor is the page behind it
abbrev pub StateStands : Boot → List Entry → Block → BlockState → Type 0
StateStands boot memory block Waits = Unit {0}
StateStands boot memory block (InFlight cpu) =
    (claim : Claimed)
    × (claim_of boot memory cpu ≡ Some claim) × (block_units boot block ≡ Some claim.units)
StateStands boot memory block Loose = NonePending boot (calls_of boot memory) block

abbrev pub BlockStands : Boot → List Entry → Block → Type 0
BlockStands boot memory block = StateStands boot memory block (block_state boot memory block)

-- What stands of an open claim: its calls before are the first ones, and each pending page in its
-- units lies in its open run or in a unit behind that.
pub record ClaimStands (boot : Boot) (memory : List Entry) (claim : Claimed) : Type 0 where
  pub more : List ModuleCall
  pub calls : calls_of boot memory ≡ claim.before ++ more
  pub ahead : (unit page : ℕ) → UnitIn claim.units unit → PageIn boot unit page →
      is_pending (page_state boot (calls_of boot memory) page) ≡ true → claim.run.first ≤ unit

-- each pending page lies in a unit whose bit is set
abbrev pub PendingIsMarked : Boot → List ModuleCall → Type 0
PendingIsMarked boot calls =
    (page : ℕ) → is_pending (page_state boot calls page) ≡ true →
    (unit : ℕ) × PageIn boot unit page × (bit_after boot calls unit ≡ true)

-- What stands in the memory after its entries.
pub record MemoryStands (boot : Boot) (memory : List Entry) : Type 0 where
  pub calls : AllByRecursion (IsPlainCall boot) (calls_of boot memory)
  pub bits : PendingIsMarked boot (calls_of boot memory)
  pub blocks : AllByRecursion (BlockStands boot memory) (cut boot)
  pub claims : (cpu : ℕ) (claim : Claimed) →
      claim_of boot memory cpu ≡ Some claim → ClaimStands boot memory claim

-- Each page of a block is accepted after calls, and the page behind it isn't pending.
pub record IsGuarded (boot : Boot) (calls : List ModuleCall) (block : Block) : Type 0 where
  pub pages : (page : ℕ) → in_block page block ≡ true →
      page_state boot calls page ≡ Some Accepted
  pub behind : is_pending (page_state boot calls (page_behind block)) ≡ false

-- A page is accepted after calls, and the page behind it isn't pending.
pub record IsClear (boot : Boot) (calls : List ModuleCall) (page : ℕ) : Type 0 where
  pub accepted : page_state boot calls page ≡ Some Accepted
  pub behind : is_pending (page_state boot calls (page + 1)) ≡ false
