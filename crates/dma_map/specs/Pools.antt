use Rattle.std.specs.Prelude.{ℕ, Option, None, Some, ◌≡◌, ◌+◌, ◌*◌, ◌/◌, ◌<◌, ◌≤◌}
use Rattle.std.specs.Option.{option_map}
use Rattle.guest_base.specs.declared.memory.Pages.{Pages}
use Rattle.guest_base.specs.declared.limits.TheConstants.{MAX_AREAS, MAX_SLOTS, PAGE_END, SLOT_BYTES}
use Rattle.event_core.specs.declared.boot.Boot.{Boot}
use Rattle.dma_map.specs.declared.pool.Layout.{Layout}

-- The bounce-buffer pool of a boot (own rule).

-- The areas of a pool have equally many slots, at least one each, and its pages lie in memory.
pub record IsLayout (layout : Layout) : Type 0 where
  pub some_areas : 0 < layout.areas
  pub few_areas : layout.areas ≤ MAX_AREAS
  pub some_slots : 0 < layout.slots
  pub few_slots : layout.slots ≤ MAX_SLOTS
  pub whole : layout.areas * (layout.slots / layout.areas) ≡ layout.slots
  pub end : layout.pool.first + layout.pool.count ≤ PAGE_END

-- the layout of a boot's pool; none where it has none
abbrev pub layout_in : Boot → Option Layout
layout_in boot =
    option_map (λ (pool : Pages). record { pool = pool; slots = boot.slots; areas = boot.areas })
    boot.pool

-- the boot's pool has this layout
pub record HasLayout (boot : Boot) (layout : Layout) : Type 0 where
  pub pool : boot.pool ≡ Some layout.pool
  pub slots : boot.slots ≡ layout.slots
  pub areas : boot.areas ≡ layout.areas

-- the boot has a pool of this layout, or none
abbrev pub HasPool : Boot → Option Layout → Type 0
HasPool boot None = boot.pool ≡ None
HasPool boot (Some layout) = HasLayout boot layout

-- a range of bytes of the pool, counted from its start, lies in an area
pub record LiesIn (layout : Layout) (area off len : ℕ) : Type 0 where
  pub few : area < layout.areas
  pub low : SLOT_BYTES * (area * (layout.slots / layout.areas)) ≤ off
  pub high : let slots = layout.slots / layout.areas in
      off + len ≤ SLOT_BYTES * (area * slots + slots)
