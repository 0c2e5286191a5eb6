use Rattle.std.specs.Prelude.{ℕ, Option, None, Some, Bool, true, false, ◌≡◌, ◌<◌}
use Rattle.guest_base.specs.Blocks.{pick}
use Rattle.guest_base.specs.declared.memory.Block.{Block}
use Rattle.guest_base.specs.declared.memory.PageState.{PageState}
use Rattle.guest_base.specs.declared.memory.PageState.TheVariants.{Pending, Accepted, Shared}
use Rattle.guest_base.specs.declared.memory.Units.{Units}
use Rattle.event_core.specs.declared.entry.Turn.{Turn}
use Rattle.event_core.specs.declared.event.Event.{Event}
use Rattle.event_core.specs.declared.reply.Found.{Found}
use Rattle.event_core.specs.declared.reply.Found.TheVariants as found
use Rattle.event_core.specs.BlockRows.{alloc_event}
use Rattle.event_core.specs.Blocks.{block_units, free_page, in_flight_with, lowest_waiting}
use Rattle.event_core.specs.Claims.{in_the_way}
use Rattle.event_core.specs.MemoryRows.{run_of_claim}
use Rattle.page_module.specs.Spans.{Taken}
use Rattle.memory_core.specs.declared.memory.Look.{Look}
use Rattle.memory_core.specs.declared.memory.Look.TheVariants as look
use Rattle.memory_core.specs.Answers.{IsMet, LeavesNoRoom, Opens}
use Rattle.memory_core.specs.Owners.{is_owner}
use Rattle.memory_core.specs.Steps.{Appends}
use Rattle.memory_core.specs.Value.{MemoryValue}
use Rattle.memory_core.specs.Waiting.{waiting_left}

-- What a look for a block answers (own rule, after the page allocator and unaccepted_memory.c).

-- no free block suffices for the order, and this one is the lowest that waits, if any
pub record Wants (memory : MemoryValue) (order : ℕ) (block : Option Block) : Type 0 where
  pub none_free : pick (free_page memory.boot memory.entries) order ≡ None
  pub lowest : lowest_waiting memory.boot memory.entries ≡ block

-- a free block was got, which nobody owned
pub record Gets (old new : MemoryValue) (order : ℕ) (block : Block) : Type 0 where
  pub picked : pick (free_page old.boot old.entries) order ≡ Some block
  pub fresh : (cpu : ℕ) → is_owner old.entries cpu block ≡ false
  pub uses : LeavesNoRoom old new

-- the lowest waiting block has no unaccepted unit, and is free now
pub record Clears (old new : MemoryValue) (order : ℕ) : Type 0 where
  pub block : Block
  pub wants : Wants old order (Some block)
  pub free : in_the_way old.boot old.entries (block_units old.boot block) ≡ None
  pub none : run_of_claim old.boot old.entries (block_units old.boot block) ≡ None
  pub fewer : waiting_left old.boot new.entries < waiting_left old.boot old.entries
  pub uses : LeavesNoRoom old new

-- the lowest waiting block is claimed, and its first run of unaccepted units is out
pub record ClaimsBlock (old new : MemoryValue) (cpu order : ℕ) (span : Taken) : Type 0 where
  pub block : Block
  pub wants : Wants old order (Some block)
  pub opens : Opens old new cpu (block_units old.boot block) span

-- an open claim meets the guarded units of the lowest waiting block
pub record IsStopped (old : MemoryValue) (order : ℕ) (met : Units) : Type 0 where
  pub block : Block
  pub wants : Wants old order (Some block)
  pub met_is : IsMet old (block_units old.boot block) met

abbrev pub LookedBy : MemoryValue → MemoryValue → Turn → ℕ → Look → Type 0
LookedBy old new turn order (look.Got block) = Gets old new order block
LookedBy old new turn order look.Cleared = Clears old new order
LookedBy old new turn order (look.Claimed span) = ClaimsBlock old new turn.cpu.0 order span
LookedBy old new turn order (look.Blocked met) = IsStopped old order met
LookedBy old new turn order (look.InFlight cpu) =
    Wants old order None × (in_flight_with old.boot old.entries ≡ Some cpu.0)
LookedBy old new turn order look.NoBlock =
    Wants old order None × (in_flight_with old.boot old.entries ≡ None) × LeavesNoRoom old new

-- A look appends the event of an allocation, if there is one, and else leaves all as it was.
pub record Looks (old new : MemoryValue) (turn turned : Turn) (order : ℕ) : Type 0 where
  pub appends : (event : Event) → alloc_event old.boot old.entries order ≡ Some event
      → Appends old new turn turned event
  pub stays : alloc_event old.boot old.entries order ≡ None → (new ≡ old) × (turned ≡ turn)

-- what a load finds by a page's state in the table, and whether it is out for an open claim, as an
-- accepted page
abbrev pub found_in : Option PageState → Bool → Option Found
found_in (Some Accepted) is_out = Some found.Accepted
found_in (Some Shared) is_out = Some found.Shared
found_in (Some Pending) is_out = None
found_in None true = Some found.Accepted
found_in None false = Some found.Outside
