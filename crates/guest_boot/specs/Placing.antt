use Rattle.std.specs.Prelude.{ℕ, List, Option, None, Some, true, ◌≡◌, ◌≢◌, ◌*◌, ◌/◌, ◌%◌, ◌<◌, ◌≤◌, nat_le, find}
use Rattle.std.specs.Int.{IsPowerOfTwo}
use Rattle.std.specs.Option.{option_map, option_map_or}
use Rattle.guest_base.specs.declared.limits.TheConstants.{MAX_SLOTS, MAX_AREAS, SEGMENT_SLOTS}
use Rattle.guest_base.specs.declared.memory.Pages.{Pages}
use Rattle.guest_base.specs.Ranges.{in_range}
use Rattle.guest_base.specs.Requests.{raised_slots}
use Rattle.event_core.specs.declared.boot.Descriptor.{Descriptor}
use Rattle.event_core.specs.Map.{ram_page}
use Rattle.dma_map.specs.declared.pool.Layout.{Layout}

-- Where the pool stands (own rule).

-- No range of RAM holds the pool for which these slots were asked; two slots make a page.
pub record HasNoRoom (map : List Descriptor) (slots areas : ℕ) : Type 0 where
  pub asked : slots ≢ 0
  pub nowhere : (first : ℕ)
      → ((page : ℕ) → in_range first (raised_slots slots areas / 2) page ≡ true
      → ram_page map page ≡ true)
      → ⊥

-- what may be asked for: at most 131,072 slots, and a power of two of areas, at most 64
pub record MayAsk (slots areas : ℕ) : Type 0 where
  pub few_slots : slots ≤ MAX_SLOTS
  pub few_areas : areas ≤ MAX_AREAS
  pub power : IsPowerOfTwo areas

-- the first pages of the first of these ranges that has this many
abbrev pub place_in : ℕ → List Pages → Option Pages
place_in size ranges =
    option_map (λ (range : Pages). record { first = range.first; count = size })
    (find (λ (range : Pages). nat_le size range.count) ranges)

-- a pool of a raised count of slots, in the first range that has room for it
pub record IsLayout (ranges : List Pages) (slots areas : ℕ) (layout : Layout) : Type 0 where
  pub asked : slots ≢ 0
  pub raised : layout.slots ≡ raised_slots slots areas
  pub same_areas : layout.areas ≡ areas
  pub place : place_in (raised_slots slots areas / 2) ranges ≡ Some layout.pool

-- the pool, or none where no slot was asked for
abbrev pub LayoutIn : List Pages → ℕ → ℕ → Option Layout → Type 0
LayoutIn ranges slots areas None = slots ≡ 0
LayoutIn ranges slots areas (Some layout) = IsLayout ranges slots areas layout

-- a pool whose areas share its slots out evenly, in whole segments
pub record IsParted (layout : Layout) : Type 0 where
  pub some : 0 < layout.areas
  pub few : layout.areas ≤ MAX_AREAS
  pub low : layout.slots ≤ MAX_SLOTS
  pub share_some : 0 < layout.slots / layout.areas
  pub share_low : layout.slots / layout.areas ≤ MAX_SLOTS
  pub segments : layout.slots / layout.areas % SEGMENT_SLOTS ≡ 0
  pub whole : layout.areas * (layout.slots / layout.areas) ≡ layout.slots

-- its slots, its areas, the share of each, and its pages
abbrev pub slots_in : Option Layout → ℕ
slots_in layout = option_map_or (λ (l : Layout). l.slots) layout 0

abbrev pub pool_in : Option Layout → Option Pages
pool_in layout = option_map (λ (l : Layout). l.pool) layout

abbrev pub areas_in : Option Layout → ℕ
areas_in layout = option_map_or (λ (l : Layout). l.areas) layout 0

abbrev pub share_in : Option Layout → ℕ
share_in layout = option_map_or (λ (l : Layout). l.slots / l.areas) layout 0
