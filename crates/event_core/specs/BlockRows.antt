use Rattle.std.specs.Prelude.{ℕ, List, Option, None, Some}
use Rattle.guest_base.specs.Blocks.{pick}
use Rattle.guest_base.specs.declared.memory.Block.{Block}
use Rattle.event_core.specs.declared.boot.Boot.{Boot}
use Rattle.event_core.specs.declared.event.Event.{Event}
use Rattle.event_core.specs.declared.event.Event.TheVariants.{Got, NoBlock}
use Rattle.event_core.specs.declared.entry.Entry.{Entry}
use Rattle.event_core.specs.Blocks.{block_units, lowest_waiting, in_flight_with, free_page}
use Rattle.event_core.specs.MemoryRows.{claim_event}

-- What an allocation may do to the memory, after its entries: it gets a free block; where none suffices it claims the lowest
-- waiting block; and where none waits it finds no block, unless one is in flight, for which it has to come again (own rule).

abbrev pub without_waiting : Option ℕ → Option Event
without_waiting None = Some NoBlock
without_waiting (Some cpu) = None

abbrev pub without_free : Boot → List Entry → Option Block → Option Event
without_free boot memory (Some block) = claim_event boot memory (Some block) (block_units boot block)
without_free boot memory None = without_waiting (in_flight_with boot memory)

abbrev pub with_pick : Boot → List Entry → Option Block → Option Event
with_pick boot memory (Some block) = Some (Got block)
with_pick boot memory None = without_free boot memory (lowest_waiting boot memory)

-- the event of an allocation of this order, of a processor that has no open claim
unfoldable pub alloc_event : Boot → List Entry → ℕ → Option Event
alloc_event boot memory order = with_pick boot memory (pick (free_page boot memory) order)
