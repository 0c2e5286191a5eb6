use Rattle.std.specs.Prelude.{ℕ, List, Option, None, Some, ◌+◌, ◌%◌, ◌==◌, if◌then◌else◌}
use Rattle.guest_base.specs.declared.transfer.Request.{Request}
use Rattle.guest_base.specs.declared.transfer.SlotRun.{SlotRun}
use Rattle.event_core.specs.declared.boot.Boot.{Boot}
use Rattle.event_core.specs.declared.event.Event.{Event}
use Rattle.event_core.specs.declared.event.Event.TheVariants.{Looked}
use Rattle.event_core.specs.declared.reply.Reply.{Reply}
use Rattle.event_core.specs.declared.reply.Reply.TheVariants as reply
use Rattle.event_core.specs.declared.entry.Entry.{Entry}
use Rattle.event_core.specs.Pool.{run_found, device_address}

-- What may happen in an area, after its entries (after swiotlb.c).

-- a processor looks in its own area first, and then in each next one, once round; the count is of those it looked in before
abbrev pub area_looked_in : Boot → ℕ → ℕ → ℕ
area_looked_in boot cpu looks = (cpu % boot.areas + looks) % boot.areas

-- a look in an area: the slots that were found, if any
abbrev pub look_event : Boot → List Entry → ℕ → Request → Event
look_event boot entries area request = Looked area (run_found boot entries area request)

-- a look that found slots ends a mapping with the device's address, and one in the last area that found none with full
abbrev pub look_reply : Boot → ℕ → Option SlotRun → Option Reply
look_reply boot looks (Some run) = Some (reply.Addr (device_address boot run))
look_reply boot looks None = if looks + 1 == boot.areas then Some reply.Full else None
