use Rattle.std.specs.Prelude.{ℕ, List, None, Some, true, false, ◌≡◌, ◌+◌, ◌*◌}
use Rattle.guest_base.specs.declared.limits.TheConstants.{SLOT_BYTES}
use Rattle.guest_base.specs.Ranges.{in_range}
use Rattle.guest_base.specs.declared.transfer.SlotRun.{SlotRun}
use Rattle.event_core.specs.declared.boot.Boot.{Boot}
use Rattle.event_core.specs.declared.event.Event.{Event}
use Rattle.event_core.specs.Pool.{live_after, hint_step, is_used}
use Rattle.event_core.specs.PoolBytes.{writes_at}
use Rattle.pool_laws.specs.Live.{live_in}
use Rattle.io_areas.specs.Value.{AreaValue, HasSizeOf}

-- The steps of an area by their events.

-- an event begins no mapping and ends none
pub record LeavesMappings (event : Event) : Type 0 where
  pub live : (mappings : List SlotRun) → live_after mappings event ≡ mappings
  pub hint : (slots hint : ℕ) → hint_step slots hint event ≡ hint

-- the place in the pool of a byte of the area
abbrev pub pool_at : AreaValue → ℕ → ℕ
pool_at area at = SLOT_BYTES * (area.number * area.slots) + at

-- an event writes no byte of the pool
abbrev pub WritesNone : Event → Type 0
WritesNone event = (boot : Boot) → writes_at boot event ≡ None

-- an event writes bytes of the area, from this one on
abbrev pub WritesAt : AreaValue → ℕ → Event → Type 0
WritesAt area at event = (boot : Boot) → HasSizeOf boot area
    → writes_at boot event ≡ Some (pool_at area at)

-- the place in its area of byte i of a mapping
abbrev pub place_in : SlotRun → ℕ → ℕ
place_in run i = SLOT_BYTES * run.first + run.offset + i

-- no live mapping uses a slot of the run
abbrev pub AreFree : AreaValue → SlotRun → Type 0
AreFree area run = (slot : ℕ) → in_range run.first run.count slot ≡ true
    → is_used (live_in area.moved) slot ≡ false
