use Rattle.std.specs.Prelude.{ℕ, List, Bool, true, ◌≡◌, ◌≢◌, ◌+◌, ◌*◌, ◌<◌, ◌≤◌, All}
use Rattle.std.specs.List.{AllPairs, list_any}
use Rattle.guest_base.specs.declared.limits.TheConstants.{SLOT_BYTES}
use Rattle.guest_base.specs.Slots.{InOneSegment}
use Rattle.guest_base.specs.declared.transfer.SlotRun.{SlotRun}
use Rattle.event_core.specs.Disjoint.{ApartRuns}
use Rattle.event_core.specs.Moved.{Moved, entries_of, made_by}
use Rattle.event_core.specs.Pool.{live_runs, same_run}

-- The live mappings of an area with its entries (own rule, after swiotlb.c).

-- a mapping has slots of the area in one segment, and its bytes lie in its slots
pub record IsInArea (number slots : ℕ) (run : SlotRun) : Type 0 where
  pub area : run.area ≡ number
  pub some : 0 < run.count
  pub inside : run.first + run.count ≤ slots
  pub segment : InOneSegment run.first run.count
  pub bytes : run.offset + run.len ≤ SLOT_BYTES * run.count

-- all live mappings, and those of a processor
abbrev pub live_in : List Moved → List SlotRun
live_in moved = live_runs (entries_of moved)

abbrev pub live_of : ℕ → List Moved → List SlotRun
live_of cpu moved = live_in (made_by cpu moved)

-- a mapping is one of these
abbrev pub is_live : SlotRun → List SlotRun → Bool
is_live run live = list_any (λ (r : SlotRun). same_run r run) live

-- The live mappings of an area lie in it and have slots of their own. A processor's are among them,
-- and none is two processors'.
pub record MappingsStand (number slots : ℕ) (moved : List Moved) : Type 0 where
  pub each : All (IsInArea number slots) (live_in moved)
  pub apart : AllPairs ApartRuns (live_in moved)
  pub among : (cpu : ℕ) (run : SlotRun) → is_live run (live_of cpu moved) ≡ true
      → is_live run (live_in moved) ≡ true
  pub once : (cpu other : ℕ) (run : SlotRun) → cpu ≢ other
      → is_live run (live_of cpu moved) ≡ true → is_live run (live_of other moved) ≡ true → ⊥
