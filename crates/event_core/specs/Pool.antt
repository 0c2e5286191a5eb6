use Rattle.std.specs.Prelude.{ℕ, List, [], ◌∷◌, Option, Some, Bool, not, ◌+◌, ◌*◌, ◌/◌, ◌==◌, ◌&&◌, fold, filter}
use Rattle.std.specs.Option.{option_map, option_map_or}
use Rattle.std.specs.List.{list_any}
use Rattle.guest_base.specs.declared.limits.TheConstants.{SLOT_BYTES, PAGE_BYTES}
use Rattle.guest_base.specs.Ranges.{in_range}
use Rattle.guest_base.specs.Slots.{choose, hint_after}
use Rattle.guest_base.specs.declared.memory.Pages.{Pages}
use Rattle.guest_base.specs.declared.transfer.Request.{Request}
use Rattle.guest_base.specs.declared.transfer.SlotRun.{SlotRun}
use Rattle.event_core.specs.declared.boot.Boot.{Boot}
use Rattle.event_core.specs.declared.event.Event.{Event}
use Rattle.event_core.specs.declared.event.Event.TheVariants.{Looked, Released}
use Rattle.event_core.specs.declared.entry.Entry.{Entry}

-- The bounce-buffer pool: areas of slots of 2,048 bytes, and the mappings that live in them (after swiotlb.c).

-- how many areas a boot has; none where it has no pool
abbrev pub area_count : Boot → ℕ
area_count boot = option_map_or (λ (pool : Pages). boot.areas) boot.pool 0

-- the slots of each area
abbrev pub area_slots : Boot → ℕ
area_slots boot = boot.slots / boot.areas

-- the area in which an offset from the pool's start lies
abbrev pub area_of_offset : Boot → ℕ → ℕ
area_of_offset boot off = off / (SLOT_BYTES * area_slots boot)

-- where byte i of a mapping stands, counted from the pool's start
abbrev pub pool_place : Boot → SlotRun → ℕ → ℕ
pool_place boot run i = (run.area * area_slots boot + run.first) * SLOT_BYTES + run.offset + i

-- the address of a mapping's first byte, for the device
abbrev pub device_address : Boot → SlotRun → ℕ
device_address boot run = option_map_or (λ (pool : Pages). PAGE_BYTES * pool.first) boot.pool 0 + pool_place boot run 0

abbrev pub same_run : SlotRun → SlotRun → Bool
same_run a b = (a.area == b.area) && ((a.first == b.first) && ((a.count == b.count) && ((a.offset == b.offset) && (a.len == b.len))))

-- a run is live from the look that found it until it is released
abbrev pub live_after : List SlotRun → Event → List SlotRun
live_after live (Looked area (Some run)) = run ∷ live
live_after live (Released run copied) = filter (λ r. not (same_run r run)) live
live_after live _ = live

unfoldable pub live_runs : List Entry → List SlotRun
live_runs entries = fold (λ live (e : Entry). live_after live e.event) [] entries

-- a slot of the area that a live run uses
abbrev pub is_used : List SlotRun → ℕ → Bool
is_used live slot = list_any (λ (run : SlotRun). in_range run.first run.count slot) live

-- where the next search begins: behind the last run that was found
abbrev pub hint_step : ℕ → ℕ → Event → ℕ
hint_step slots hint (Looked area (Some run)) = hint_after slots run.first run.count
hint_step slots hint _ = hint

unfoldable pub hint_of : Boot → List Entry → ℕ
hint_of boot entries = fold (λ hint (e : Entry). hint_step (area_slots boot) hint e.event) 0 entries

-- the run for a request, of the slots that the search finds in an area with these entries; none where no run fits
abbrev pub run_for : ℕ → Request → ℕ → SlotRun
run_for area request first = record { area = area; first = first; count = request.need; offset = request.offset; len = request.len }

unfoldable pub run_found : Boot → List Entry → ℕ → Request → Option SlotRun
run_found boot entries area request =
    option_map (run_for area request)
    (let live = live_runs entries in choose (is_used live) (area_slots boot) (hint_of boot entries) request.need request.align)
