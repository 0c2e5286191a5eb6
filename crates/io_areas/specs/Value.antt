use Rattle.std.specs.Prelude.{ℕ, List, [], ◌∷◌, ◌++◌, Option, None, Some, true, ◌≡◌, ◌+◌, ◌*◌, ◌^◌, ◌<◌, ◌≤◌, max}
use Rattle.guest_base.specs.declared.limits.TheConstants.{SLOT_BYTES, SEGMENT_SLOTS}
use Rattle.guest_base.specs.declared.transfer.Request.{Request}
use Rattle.guest_base.specs.declared.transfer.SlotRun.{SlotRun}
use Rattle.event_core.specs.declared.boot.Boot.{Boot}
use Rattle.event_core.specs.declared.entry.Turn.{Turn}
use Rattle.event_core.specs.declared.event.Event.{Event}
use Rattle.event_core.specs.Legal.{greatest_stamp}
use Rattle.event_core.specs.Moved.{Moved}
use Rattle.event_core.specs.Pool.{area_slots}
use Rattle.pool_laws.specs.Live.{is_live, live_of}
use Rattle.io_areas.specs.Transfers.{bare_by}

-- What contracts see of an area of the pool, and what its steps do.

-- An area: its number, its slots, its entries with the bytes that they moved, and the room for the
-- next step. A step needs room for one more than the bytes that it moves.
pub record AreaValue : Type 0 where
  pub number : ℕ
  pub slots : ℕ
  pub moved : List Moved
  pub room : ℕ

-- the areas of the boot have as many slots as this one
abbrev pub HasSizeOf : Boot → AreaValue → Type 0
HasSizeOf boot area = area_slots boot ≡ area.slots

-- a bare entry that a processor makes under the area's lock, with the bytes that it moves
abbrev pub entry_by : AreaValue → Turn → Event → List ℕ → Moved
entry_by area turn event bytes =
    bare_by area.number (greatest_stamp area.moved) turn event bytes

-- a step may be made that moves this many bytes: stamps are left, and there is room
pub record MayStep (area : AreaValue) (turn : Turn) (bytes : ℕ) : Type 0 where
  pub clock : turn.clock < 2 ^ 64
  pub last : greatest_stamp area.moved < 2 ^ 64
  pub room : bytes < area.room

-- a step appends one bare entry, whose stamp becomes the processor's clock, and uses up the room
pub record Appends (old new : AreaValue) (turn turned : Turn) (event : Event) (bytes : List ℕ)
    : Type 0 where
  pub number : new.number ≡ old.number
  pub slots : new.slots ≡ old.slots
  pub moved : new.moved ≡ old.moved ++ entry_by old turn event bytes ∷ []
  pub clock : turned ≡ record turn { clock = max turn.clock (greatest_stamp old.moved) + 1 }
  pub room : new.room ≡ 0

-- a look may ask for this: slots that a segment has, which hold the bytes
pub record IsRequest (request : Request) : Type 0 where
  pub some : 0 < request.need
  pub few : request.need ≤ SEGMENT_SLOTS
  pub bytes : request.offset + request.len ≤ SLOT_BYTES * request.need

-- the mapping is live, and the processor's
abbrev pub IsMine : AreaValue → ℕ → SlotRun → Type 0
IsMine area cpu run = is_live run (live_of cpu area.moved) ≡ true

-- a range of bytes of the pool, counted from its start, lies in the area
pub record LiesIn (area : AreaValue) (off len : ℕ) : Type 0 where
  pub low : SLOT_BYTES * (area.number * area.slots) ≤ off
  pub high : off + len ≤ SLOT_BYTES * (area.number * area.slots + area.slots)

-- a look that found slots moves the bytes into them, and another none
abbrev pub moved_by_look : Option SlotRun → List ℕ → List ℕ
moved_by_look None bytes = []
moved_by_look (Some run) bytes = bytes
